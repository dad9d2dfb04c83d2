use Rattle.order_laws.proofs.Differing.{orders_may_differ}
use Rattle.order_laws.proofs.orders_may_differ.Goals as goal

pub returns : goal.returns
returns g = orders_may_differ
