use Rattle.inbox_laws.proofs.Owning.{enough_runs}
use Rattle.inbox_laws.proofs.enough_runs_are_enough.Goals as goal

pub returns : goal.returns
returns c = enough_runs
