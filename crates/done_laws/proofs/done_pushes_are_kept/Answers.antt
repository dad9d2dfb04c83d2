use Rattle.done_laws.proofs.Lasts.{done-pushes_are_kept}
use Rattle.done_laws.proofs.done_pushes_are_kept.Goals as goal

pub returns : goal.returns
returns c = done-pushes_are_kept
