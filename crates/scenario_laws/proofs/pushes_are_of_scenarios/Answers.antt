use Rattle.scenario_laws.proofs.PushEnds.{pushes_are_of_scenarios}
use Rattle.scenario_laws.proofs.pushes_are_of_scenarios.Goals as goal

pub returns : goal.returns
returns c = pushes_are_of_scenarios
