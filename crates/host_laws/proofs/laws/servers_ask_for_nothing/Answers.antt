use Rattle.host_laws.proofs.InOrder.{servers-ask_for_nothing}
use Rattle.host_laws.proofs.laws.servers_ask_for_nothing.Goals as goal

pub returns : goal.returns
returns c = servers-ask_for_nothing
