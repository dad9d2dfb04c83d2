use Rattle.lending_laws.proofs.Freed.{free_servers_show}
use Rattle.lending_laws.proofs.free_servers_show.Goals as goal

pub returns : goal.returns
returns g c = free_servers_show
