use Rattle.host_laws.proofs.GoingAsTold.{clients_go_as_told}
use Rattle.host_laws.proofs.laws.clients_go_as_told.Goals as goal

pub returns : goal.returns
returns c = clients_go_as_told
