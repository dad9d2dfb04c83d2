use Rattle.air_laws.proofs.Obeying.{air_is_kept}
use Rattle.air_laws.proofs.air_is_kept.Goals as goal

pub returns : goal.returns
returns g c U V = air_is_kept U V
