use Rattle.coming_laws.proofs.Placing.{outcomes_add_up}
use Rattle.coming_laws.proofs.outcomes_add_up.Goals as goal

pub returns : goal.returns
returns c = outcomes_add_up
