use Rattle.push_laws.proofs.OnceDirect.{pushes-tell_each}
use Rattle.push_laws.proofs.laws.pushes_tell_each.Goals as goal

pub returns : goal.returns
returns c = pushes-tell_each
