use Rattle.host_laws.proofs.Spoken.{objects-move}
use Rattle.host_laws.proofs.laws.objects_move.Goals as goal

pub returns : goal.returns
returns c = objects-move
