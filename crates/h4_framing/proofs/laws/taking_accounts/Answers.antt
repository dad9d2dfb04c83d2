use Rattle.h4_framing.proofs.AccountLemmas.{taking_accounts}
use Rattle.h4_framing.proofs.laws.taking_accounts.Goals as goal

pub returns : goal.returns
returns c = taking_accounts
