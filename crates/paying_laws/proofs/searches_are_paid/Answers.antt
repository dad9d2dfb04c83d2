use Rattle.paying_laws.proofs.Paid.{searches-are_paid}
use Rattle.paying_laws.proofs.searches_are_paid.Goals as goal

pub returns : goal.returns
returns c = searches-are_paid
