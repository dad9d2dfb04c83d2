use Rattle.pair_laws.proofs.Pairing.{served-keep_order}
use Rattle.pair_laws.proofs.served_keep_order.Goals as goal

pub returns : goal.returns
returns c = served-keep_order
