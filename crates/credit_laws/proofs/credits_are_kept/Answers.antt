use Rattle.credit_laws.proofs.Fronts.{credits-are_kept}
use Rattle.credit_laws.proofs.credits_are_kept.Goals as goal

pub returns : goal.returns
returns c = credits-are_kept
