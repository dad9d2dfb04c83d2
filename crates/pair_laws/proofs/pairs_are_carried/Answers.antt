use Rattle.pair_laws.proofs.Taking.{pairs-are_carried}
use Rattle.pair_laws.proofs.pairs_are_carried.Goals as goal

pub returns : goal.returns
returns c = pairs-are_carried
