use Rattle.scenario_laws.proofs.Fronts.{fronts_ran}
use Rattle.scenario_laws.proofs.fronts_are_of_runs.Goals as goal

pub returns : goal.returns
returns c = fronts_ran
