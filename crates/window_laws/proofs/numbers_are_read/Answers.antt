use Rattle.window_laws.proofs.Numbers.{numbers-are_read}
use Rattle.window_laws.proofs.numbers_are_read.Goals as goal

pub returns : goal.returns
returns c = numbers-are_read
