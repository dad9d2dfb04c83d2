use Rattle.done_laws.proofs.Lasts.{kept_leave_out}
use Rattle.done_laws.proofs.kept_leave_out.Goals as goal

pub returns : goal.returns
returns c = kept_leave_out
