use Rattle.scenario_play.proofs.Gained.{plays_gain}
use Rattle.scenario_play.proofs.ending.plays_gain.Goals as goal

pub returns : goal.returns
returns c = plays_gain c.plays_keep.ensures
