use Rattle.std.proofs.Common.{refl}
use Rattle.check_words.specs.Division.{added, reduced, divided}
use Rattle.check_words.specs.CheckWords.{low_bits}
use Rattle.check_words.proofs.laws.worked_values.Goals as goal

pub returns : goal.returns
unfolding added reduced divided low_bits
returns c = record { l2cap = (refl, refl); rfcomm = (refl, refl, refl) }
