use Rattle.h4_framing.proofs.AccountLemmas.{given_come_first}
use Rattle.h4_framing.proofs.laws.given_come_first.Goals as goal

pub returns : goal.returns
returns c = given_come_first
