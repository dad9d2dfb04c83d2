use Rattle.object_push.proofs.Keeping.{runs_keep}
use Rattle.object_push.proofs.laws.runs_keep.Goals as goal

pub returns : goal.returns
returns c = runs_keep c.plays_keep.ensures
