use Rattle.host_laws.proofs.ClientCalls.{clients-ask_in_order}
use Rattle.host_laws.proofs.laws.clients_ask_in_order.Goals as goal

pub returns : goal.returns
returns c = clients-ask_in_order
