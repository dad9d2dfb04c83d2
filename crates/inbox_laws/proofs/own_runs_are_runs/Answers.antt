use Rattle.inbox_laws.proofs.Owning.{own_runs}
use Rattle.inbox_laws.proofs.own_runs_are_runs.Goals as goal

pub returns : goal.returns
returns c = own_runs
