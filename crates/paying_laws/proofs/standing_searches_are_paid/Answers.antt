use Rattle.paying_laws.proofs.Paid.{standing-searches_are_paid}
use Rattle.paying_laws.proofs.standing_searches_are_paid.Goals as goal

pub returns : goal.returns
returns c = standing-searches_are_paid
