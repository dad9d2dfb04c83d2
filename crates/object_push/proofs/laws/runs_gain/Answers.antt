use Rattle.object_push.proofs.Gaining.{runs_gain}
use Rattle.object_push.proofs.laws.runs_gain.Goals as goal

pub returns : goal.returns
returns c = runs_gain c.plays_gain.ensures
