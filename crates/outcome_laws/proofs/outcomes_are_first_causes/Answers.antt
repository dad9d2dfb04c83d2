use Rattle.outcome_laws.proofs.FirstCause.{outcomes_are_first_causes}
use Rattle.outcome_laws.proofs.outcomes_are_first_causes.Goals as goal

pub returns : goal.returns
returns c = outcomes_are_first_causes
