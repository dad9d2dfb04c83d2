use Rattle.host_laws.proofs.KeepingClients.{clients_keep_on}
use Rattle.host_laws.proofs.laws.clients_keep_on.Goals as goal

pub returns : goal.returns
returns c = clients_keep_on
