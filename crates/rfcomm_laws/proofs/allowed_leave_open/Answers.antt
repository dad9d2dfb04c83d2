use Rattle.rfcomm_laws.proofs.Refusing.{allowed-leave_open}
use Rattle.rfcomm_laws.proofs.allowed_leave_open.Goals as goal

pub returns : goal.returns
returns c = allowed-leave_open
