use Rattle.turn_laws.proofs.Recounting.{world_is_turned}
use Rattle.turn_laws.proofs.worlds_are_turns.Goals as goal

pub returns : goal.returns
returns g c U V = world_is_turned U V
