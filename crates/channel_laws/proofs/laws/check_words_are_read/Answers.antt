use Rattle.own_channel_laws.proofs.CheckWords.{check_words-are_read}
use Rattle.channel_laws.proofs.laws.check_words_are_read.Goals as goal

pub returns : goal.returns
returns c = check_words-are_read
