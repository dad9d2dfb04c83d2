use Rattle.pair_laws.proofs.Pairing.{runs-keep_order}
use Rattle.pair_laws.proofs.runs_keep_order.Goals as goal

pub returns : goal.returns
returns c = runs-keep_order
