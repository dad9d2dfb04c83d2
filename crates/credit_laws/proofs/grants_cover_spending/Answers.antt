use Rattle.credit_laws.proofs.Paying.{grants-cover_spending}
use Rattle.credit_laws.proofs.grants_cover_spending.Goals as goal

pub returns : goal.returns
returns c = grants-cover_spending
