use Rattle.h4_framing.proofs.ReadingLemmas.{each_read}
use Rattle.h4_framing.proofs.laws.each_stream_is_read.Goals as goal

pub returns : goal.returns
returns c = each_read
