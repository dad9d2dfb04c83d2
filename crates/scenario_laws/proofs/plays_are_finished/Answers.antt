use Rattle.scenario_laws.proofs.Played.{plays_are_finished}
use Rattle.scenario_laws.proofs.plays_are_finished.Goals as goal

pub returns : goal.returns
returns g c U V = plays_are_finished U V
