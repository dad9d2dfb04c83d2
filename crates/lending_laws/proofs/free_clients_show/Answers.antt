use Rattle.lending_laws.proofs.Freed.{free_clients_show}
use Rattle.lending_laws.proofs.free_clients_show.Goals as goal

pub returns : goal.returns
returns g c = free_clients_show
