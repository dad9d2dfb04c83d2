use Rattle.host_laws.proofs.Steadying.{steady_fire_plainly}
use Rattle.host_laws.proofs.laws.steady_fire_plainly.Goals as goal

pub returns : goal.returns
returns c = steady_fire_plainly
