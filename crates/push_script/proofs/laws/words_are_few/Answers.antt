use Rattle.push_script.proofs.FewWords.{has_few_words}
use Rattle.push_script.proofs.laws.words_are_few.Goals as goal

pub returns : goal.returns
returns c = has_few_words
