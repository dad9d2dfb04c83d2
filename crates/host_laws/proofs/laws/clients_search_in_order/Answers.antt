use Rattle.host_laws.proofs.SearchOrder.{clients_search_in_order}
use Rattle.host_laws.proofs.laws.clients_search_in_order.Goals as goal

pub returns : goal.returns
returns c = clients_search_in_order
