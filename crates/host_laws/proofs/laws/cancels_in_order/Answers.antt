use Rattle.host_laws.proofs.SearchCancelled.{cancels_in_order}
use Rattle.host_laws.proofs.laws.cancels_in_order.Goals as goal

pub returns : goal.returns
returns c = cancels_in_order
