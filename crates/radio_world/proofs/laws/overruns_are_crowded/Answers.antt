use Rattle.radio_world.proofs.Overrunning.{overruns_are_crowded}
use Rattle.radio_world.proofs.laws.overruns_are_crowded.Goals as goal

pub returns : goal.returns
returns g c = overruns_are_crowded g.A.Host.machine g.B.Host.machine g.A.Host.answers g.B.Host.answers
