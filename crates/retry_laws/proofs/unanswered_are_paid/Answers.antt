use Rattle.retry_laws.proofs.Paying.{unanswered-are_paid}
use Rattle.retry_laws.proofs.unanswered_are_paid.Goals as goal

pub returns : goal.returns
returns c = unanswered-are_paid
