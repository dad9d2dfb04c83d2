use Rattle.h4_framing.proofs.AccountLemmas.{new_accounts}
use Rattle.h4_framing.proofs.laws.new_accounts.Goals as goal

pub returns : goal.returns
returns c = new_accounts
