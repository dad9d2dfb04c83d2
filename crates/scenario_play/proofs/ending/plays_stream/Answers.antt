use Rattle.scenario_play.proofs.Streamed.{plays_stream}
use Rattle.scenario_play.proofs.ending.plays_stream.Goals as goal

pub returns : goal.returns
returns c = plays_stream c.plays_keep.ensures
