use Rattle.host_laws.proofs.Turning.{turns_are_acts}
use Rattle.host_laws.proofs.laws.turns_are_acts.Goals as goal

pub returns : goal.returns
returns g c U V = turns_are_acts U V
