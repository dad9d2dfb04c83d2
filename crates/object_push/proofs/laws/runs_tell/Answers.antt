use Rattle.object_push.proofs.Telling.{runs_tell}
use Rattle.object_push.proofs.laws.runs_tell.Goals as goal

pub returns : goal.returns
returns c = runs_tell c.plays_keep.ensures
