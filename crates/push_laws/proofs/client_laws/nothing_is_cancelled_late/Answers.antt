use Rattle.push_laws.proofs.Finals.{nothing-is_cancelled_late}
use Rattle.push_laws.proofs.client_laws.nothing_is_cancelled_late.Goals as goal

pub returns : goal.returns
returns c = nothing-is_cancelled_late
