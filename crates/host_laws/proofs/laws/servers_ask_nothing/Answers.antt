use Rattle.host_laws.proofs.InOrder.{servers_ask_nothing}
use Rattle.host_laws.proofs.laws.servers_ask_nothing.Goals as goal

pub returns : goal.returns
returns c = servers_ask_nothing
