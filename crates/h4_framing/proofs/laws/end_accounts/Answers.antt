use Rattle.h4_framing.proofs.AccountLemmas.{end_accounts}
use Rattle.h4_framing.proofs.laws.end_accounts.Goals as goal

pub returns : goal.returns
returns c = end_accounts
