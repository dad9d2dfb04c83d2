use Rattle.scenario_play.proofs.Doing.{plays_store_done}
use Rattle.scenario_play.proofs.ending.plays_store_done.Goals as goal

pub returns : goal.returns
returns c = plays_store_done
