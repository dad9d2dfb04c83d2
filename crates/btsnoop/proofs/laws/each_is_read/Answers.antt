use Rattle.btsnoop.proofs.ReadingLemmas.{each_read}
use Rattle.btsnoop.proofs.laws.each_is_read.Goals as goal

pub returns : goal.returns
returns c = each_read
