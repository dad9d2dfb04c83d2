use Rattle.inbox_laws.proofs.Owning.{granted_runs}
use Rattle.inbox_laws.proofs.granted_runs_are_granted.Goals as goal

pub returns : goal.returns
returns c = granted_runs
