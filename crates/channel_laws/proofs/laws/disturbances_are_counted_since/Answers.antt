use Rattle.channel_laws.proofs.Costing.{disturbances-are_counted_since}
use Rattle.channel_laws.proofs.laws.disturbances_are_counted_since.Goals as goal

pub returns : goal.returns
returns c = disturbances-are_counted_since
