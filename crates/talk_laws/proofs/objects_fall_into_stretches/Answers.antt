use Rattle.talk_laws.proofs.Stretches.{objects-fall_into_stretches}
use Rattle.talk_laws.proofs.objects_fall_into_stretches.Goals as goal

pub returns : goal.returns
returns c = objects-fall_into_stretches
