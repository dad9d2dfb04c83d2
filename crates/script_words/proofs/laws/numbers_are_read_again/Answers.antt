use Rattle.script_words.proofs.Numbers.{numbers_again}
use Rattle.script_words.proofs.laws.numbers_are_read_again.Goals as goal

pub returns : goal.returns
returns c = numbers_again
