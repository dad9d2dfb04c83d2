use Rattle.push_laws.proofs.Losing.{nothing-is_left_out}
use Rattle.push_laws.proofs.laws.nothing_is_left_out.Goals as goal

pub returns : goal.returns
returns c = nothing-is_left_out
