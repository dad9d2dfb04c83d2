use Rattle.host_laws.proofs.SearchKept.{profiles_search_in_order}
use Rattle.host_laws.proofs.laws.profiles_search_in_order.Goals as goal

pub returns : goal.returns
returns c = profiles_search_in_order
