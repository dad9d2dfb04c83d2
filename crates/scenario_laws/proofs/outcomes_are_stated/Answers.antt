use Rattle.scenario_laws.proofs.Outcomes.{outcomes_stated}
use Rattle.scenario_laws.proofs.outcomes_are_stated.Goals as goal

pub returns : goal.returns
returns c = outcomes_stated
