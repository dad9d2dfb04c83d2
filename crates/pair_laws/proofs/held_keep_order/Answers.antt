use Rattle.pair_laws.proofs.Pairing.{held-keep_order}
use Rattle.pair_laws.proofs.held_keep_order.Goals as goal

pub returns : goal.returns
returns c = held-keep_order
