use Rattle.recovery_laws.proofs.Running.{closings-are_paid}
use Rattle.recovery_laws.proofs.closings_are_paid.Goals as goal

pub returns : goal.returns
returns c = closings-are_paid
