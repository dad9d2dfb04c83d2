use Rattle.air_laws.proofs.Marking.{pushes_are_marked}
use Rattle.air_laws.proofs.pushes_are_marked.Goals as goal

pub returns : goal.returns
returns g c U V = pushes_are_marked U V
