use Rattle.scenario_laws.proofs.Freeing.{runs_hold_back_nothing}
use Rattle.scenario_laws.proofs.runs_hold_back_nothing.Goals as goal

pub returns : goal.returns
returns c = runs_hold_back_nothing
