use Rattle.h4_framing.proofs.ReadingLemmas.{one_reading}
use Rattle.h4_framing.proofs.laws.one_reading.Goals as goal

pub returns : goal.returns
returns c = one_reading
