use Rattle.retry_laws.proofs.Paying.{losses-are_paid}
use Rattle.retry_laws.proofs.losses_are_paid.Goals as goal

pub returns : goal.returns
returns c = losses-are_paid
