use Rattle.unit_laws.proofs.Running.{units_are_talk}
use Rattle.unit_laws.proofs.units_are_talk.Goals as goal

pub returns : goal.returns
returns g c U = units_are_talk U
