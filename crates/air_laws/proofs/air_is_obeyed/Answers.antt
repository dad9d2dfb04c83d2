use Rattle.air_laws.proofs.Ending.{air_is_obeyed}
use Rattle.air_laws.proofs.air_is_obeyed.Goals as goal

pub returns : goal.returns
returns g c U V = air_is_obeyed U V
