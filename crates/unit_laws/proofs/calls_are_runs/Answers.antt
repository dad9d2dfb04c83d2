use Rattle.unit_laws.proofs.Doing.{calls_are_runs}
use Rattle.unit_laws.proofs.calls_are_runs.Goals as goal

pub returns : goal.returns
returns g c U = calls_are_runs U
