use Rattle.pair_laws.proofs.Pairing.{enough-keep_order}
use Rattle.pair_laws.proofs.enough_keep_order.Goals as goal

pub returns : goal.returns
returns c = enough-keep_order
