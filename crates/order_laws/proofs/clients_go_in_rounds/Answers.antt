use Rattle.order_laws.proofs.Hosts.{clients_go_in_rounds}
use Rattle.order_laws.proofs.clients_go_in_rounds.Goals as goal

pub returns : goal.returns
returns g c = clients_go_in_rounds
