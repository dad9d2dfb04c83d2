use Rattle.btsnoop.proofs.AccountLemmas.{given_first}
use Rattle.btsnoop.proofs.laws.given_come_first.Goals as goal

pub returns : goal.returns
returns c = given_first
