use Rattle.host_laws.proofs.ClientCalls.{clients-ask_once}
use Rattle.host_laws.proofs.laws.clients_ask_once.Goals as goal

pub returns : goal.returns
returns c = clients-ask_once
