use Rattle.pair_laws.proofs.Whole.{pairs-are_whole}
use Rattle.pair_laws.proofs.pairs_are_whole.Goals as goal

pub returns : goal.returns
returns c = pairs-are_whole
