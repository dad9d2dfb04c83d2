use Rattle.scenario_laws.proofs.Onward.{pushes_go_onward}
use Rattle.scenario_laws.proofs.pushes_go_onward.Goals as goal

pub returns : goal.returns
returns c = pushes_go_onward
