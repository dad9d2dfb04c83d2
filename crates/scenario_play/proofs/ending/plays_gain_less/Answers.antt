use Rattle.scenario_play.proofs.Lost.{plays_gain_less}
use Rattle.scenario_play.proofs.ending.plays_gain_less.Goals as goal

pub returns : goal.returns
returns c = plays_gain_less
