use Rattle.pair_laws.proofs.Pairing.{granted-keep_order}
use Rattle.pair_laws.proofs.granted_keep_order.Goals as goal

pub returns : goal.returns
returns c = granted-keep_order
