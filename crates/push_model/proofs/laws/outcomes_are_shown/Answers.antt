use Rattle.push_model.proofs.ShownLaws.{outcomes_are_shown}
use Rattle.push_model.proofs.laws.outcomes_are_shown.Goals as goal

pub returns : goal.returns
returns c = outcomes_are_shown
