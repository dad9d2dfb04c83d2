use Rattle.channel_laws.proofs.OwnWishes.{check_words-are_wished}
use Rattle.channel_laws.proofs.laws.check_words_are_wished.Goals as goal

pub returns : goal.returns
returns c = check_words-are_wished
