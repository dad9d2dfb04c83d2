use Rattle.scenario_laws.proofs.Played.{calls_are_played}
use Rattle.scenario_laws.proofs.calls_are_played.Goals as goal

pub returns : goal.returns
returns g c U V = calls_are_played U V
