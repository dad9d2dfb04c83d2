use Rattle.push_laws.proofs.Gaining.{credits-are_read}
use Rattle.push_laws.proofs.laws.credits_are_read.Goals as goal

pub returns : goal.returns
returns c = credits-are_read
