use Rattle.talk_laws.proofs.Objects.{objects-grow}
use Rattle.talk_laws.proofs.objects_only_grow.Goals as goal

pub returns : goal.returns
returns c = objects-grow
