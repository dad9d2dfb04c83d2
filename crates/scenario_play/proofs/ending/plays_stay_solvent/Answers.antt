use Rattle.scenario_play.proofs.Solvent.{plays_stay_solvent}
use Rattle.scenario_play.proofs.ending.plays_stay_solvent.Goals as goal

pub returns : goal.returns
returns c = plays_stay_solvent
