use Rattle.carried_laws.proofs.Coming.{orderly_may_come}
use Rattle.carried_laws.proofs.orderly_may_come.Goals as goal

pub returns : goal.returns
returns c = orderly_may_come
