use Rattle.push_model.proofs.ShownFirstLaws.{outcomes_end_exactly}
use Rattle.push_model.proofs.laws.outcomes_end_exactly.Goals as goal

pub returns : goal.returns
returns c = outcomes_end_exactly
