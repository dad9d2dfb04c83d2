use Rattle.outcome_laws.proofs.Ending.{outcomes_are_said}
use Rattle.outcome_laws.proofs.outcomes_are_said.Goals as goal

pub returns : goal.returns
returns c = outcomes_are_said
