use Rattle.scenario_play.proofs.Ended.{plays_break_off}
use Rattle.scenario_play.proofs.ending.plays_break_off.Goals as goal

pub returns : goal.returns
returns c = plays_break_off
