use Rattle.outcome_laws.proofs.Bringing.{outcomes_are_brought_about}
use Rattle.outcome_laws.proofs.outcomes_are_brought_about.Goals as goal

pub returns : goal.returns
returns c = outcomes_are_brought_about
