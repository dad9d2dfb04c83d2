use Rattle.lending_laws.proofs.Freed.{free_clients_run}
use Rattle.lending_laws.proofs.free_clients_run.Goals as goal

pub returns : goal.returns
returns g c = free_clients_run
