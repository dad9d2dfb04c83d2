use Rattle.carried_laws.proofs.Sample.{a_push_is_in_order}
use Rattle.carried_laws.proofs.a_push_is_in_order.Goals as goal

pub returns : goal.returns
returns c = a_push_is_in_order
