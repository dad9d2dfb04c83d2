use Rattle.making.proofs.Whole.{whole}
use Rattle.making.proofs.laws.good_ends_are_whole.Goals as goal

pub returns : goal.returns
returns c = whole
