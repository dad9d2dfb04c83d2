use Rattle.host_laws.proofs.Calling.{clients-call_in_order}
use Rattle.host_laws.proofs.laws.clients_call_in_order.Goals as goal

pub returns : goal.returns
returns c = clients-call_in_order
