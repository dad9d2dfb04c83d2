use Rattle.credit_laws.proofs.Moving.{moved-hold_some}
use Rattle.credit_laws.proofs.moved_hold_some.Goals as goal

pub returns : goal.returns
returns c = moved-hold_some
