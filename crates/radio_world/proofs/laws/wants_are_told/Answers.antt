use Rattle.radio_world.proofs.Overrunning.{wants_are_told}
use Rattle.radio_world.proofs.laws.wants_are_told.Goals as goal

pub returns : goal.returns
returns g c = wants_are_told g.A.Host.machine g.B.Host.machine g.A.Host.answers g.B.Host.answers g.A.Host.lacked g.B.Host.lacked
