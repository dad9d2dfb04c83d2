use Rattle.scenario_laws.proofs.Broken.{scenarios_break_off}
use Rattle.scenario_laws.proofs.scenarios_break_off.Goals as goal

pub returns : goal.returns
returns c = scenarios_break_off
