use Rattle.inbox_laws.proofs.Spending.{spends_what_is_given}
use Rattle.inbox_laws.proofs.spends_what_is_given.Goals as goal

pub returns : goal.returns
returns c = spends_what_is_given
