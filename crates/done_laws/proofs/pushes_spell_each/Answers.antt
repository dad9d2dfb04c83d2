use Rattle.done_laws.proofs.Kept.{pushes-spell_each}
use Rattle.done_laws.proofs.pushes_spell_each.Goals as goal

pub returns : goal.returns
returns c = pushes-spell_each
