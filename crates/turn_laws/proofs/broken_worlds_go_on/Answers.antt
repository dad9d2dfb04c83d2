use Rattle.turn_laws.proofs.Recounting.{broken_world_goes_on}
use Rattle.turn_laws.proofs.broken_worlds_go_on.Goals as goal

pub returns : goal.returns
returns g c U V = broken_world_goes_on U V
