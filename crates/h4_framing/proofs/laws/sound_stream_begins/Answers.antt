use Rattle.h4_framing.proofs.FaultLemmas.{whole_begins, cut_begins}
use Rattle.h4_framing.proofs.laws.sound_stream_begins.Goals as goal

pub returns : goal.returns
returns c = λ limit stream packets. (whole_begins limit stream packets, cut_begins limit stream packets)
