use Rattle.host_laws.proofs.InOrder.{servers-are_served_in_order}
use Rattle.host_laws.proofs.laws.servers_are_served_in_order.Goals as goal

pub returns : goal.returns
returns c = servers-are_served_in_order
