use Rattle.turn_laws.proofs.Running.{carried_is_turned}
use Rattle.turn_laws.proofs.runs_are_turns.Goals as goal

pub returns : goal.returns
returns g c U V = carried_is_turned U V
