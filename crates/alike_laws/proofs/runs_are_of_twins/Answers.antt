use Rattle.alike_laws.proofs.Twins.{runs_are_of_twins}
use Rattle.alike_laws.proofs.runs_are_of_twins.Goals as goal

pub returns : goal.returns
returns g c U V = runs_are_of_twins U V
