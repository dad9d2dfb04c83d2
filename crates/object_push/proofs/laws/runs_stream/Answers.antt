use Rattle.object_push.proofs.Streaming.{runs_stream}
use Rattle.object_push.proofs.laws.runs_stream.Goals as goal

pub returns : goal.returns
returns c = runs_stream c.plays_stream.ensures
