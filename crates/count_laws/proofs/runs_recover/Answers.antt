use Rattle.count_laws.proofs.Counting.{rests-recover, runs-recover}
use Rattle.count_laws.proofs.runs_recover.Goals as goal

pub returns : goal.returns
returns c = record { each = runs-recover c.pairs_are_carried.ensures c.channels_recover.ensures; rest = rests-recover c.pairs_are_carried.ensures c.channels_recover.ensures }
