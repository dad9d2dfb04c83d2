use Rattle.channel_laws.proofs.Costing.{disturbances-are_counted}
use Rattle.channel_laws.proofs.laws.disturbances_are_counted.Goals as goal

pub returns : goal.returns
returns c = disturbances-are_counted
