use Rattle.h4_framing.proofs.ReadingLemmas.{written_is_read}
use Rattle.h4_framing.proofs.laws.written_is_read.Goals as goal

pub returns : goal.returns
returns c = written_is_read
