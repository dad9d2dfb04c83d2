use Rattle.order_laws.proofs.Hosts.{servers_go_in_rounds}
use Rattle.order_laws.proofs.servers_go_in_rounds.Goals as goal

pub returns : goal.returns
returns g c = servers_go_in_rounds
