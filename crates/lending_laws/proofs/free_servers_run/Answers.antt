use Rattle.lending_laws.proofs.Freed.{free_servers_run}
use Rattle.lending_laws.proofs.free_servers_run.Goals as goal

pub returns : goal.returns
returns g c = free_servers_run
