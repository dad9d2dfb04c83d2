use Rattle.btsnoop.proofs.ReadingLemmas.{one_reading}
use Rattle.btsnoop.proofs.laws.one_reading.Goals as goal

pub returns : goal.returns
returns c = one_reading
