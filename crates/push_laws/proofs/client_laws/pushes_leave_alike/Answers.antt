use Rattle.push_laws.proofs.Parties.{pushes-leave_alike}
use Rattle.push_laws.proofs.client_laws.pushes_leave_alike.Goals as goal

pub returns : goal.returns
returns c = pushes-leave_alike
