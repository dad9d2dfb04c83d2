use Rattle.check_words.proofs.Octets.{check_words-hold}
use Rattle.check_words.proofs.laws.check_words_hold.Goals as goal

pub returns : goal.returns
returns c = check_words-hold
