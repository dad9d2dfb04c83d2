use Rattle.scenario_laws.proofs.PushEnds.{pushes_end}
use Rattle.scenario_laws.proofs.pushes_end.Goals as goal

pub returns : goal.returns
returns c = pushes_end
