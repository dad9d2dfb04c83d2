use Rattle.script_words.proofs.WordsWritten.{one_word}
use Rattle.script_words.proofs.laws.words_have_their_own_texts.Goals as goal

pub returns : goal.returns
returns c = one_word
