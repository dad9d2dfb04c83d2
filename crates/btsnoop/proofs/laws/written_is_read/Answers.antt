use Rattle.btsnoop.proofs.AccountLemmas.{written_read}
use Rattle.btsnoop.proofs.laws.written_is_read.Goals as goal

pub returns : goal.returns
returns c = written_read
