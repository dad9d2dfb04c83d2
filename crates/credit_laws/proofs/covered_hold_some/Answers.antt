use Rattle.credit_laws.proofs.Seeing.{covered-hold_some}
use Rattle.credit_laws.proofs.covered_hold_some.Goals as goal

pub returns : goal.returns
returns c = covered-hold_some
