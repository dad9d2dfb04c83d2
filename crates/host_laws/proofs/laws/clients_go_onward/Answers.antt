use Rattle.host_laws.proofs.OnwardSteps.{clients_go_onward}
use Rattle.host_laws.proofs.laws.clients_go_onward.Goals as goal

pub returns : goal.returns
returns c = clients_go_onward
