use Rattle.host_laws.proofs.SearchMemory.{clients_search_with_memory}
use Rattle.host_laws.proofs.laws.clients_search_with_memory.Goals as goal

pub returns : goal.returns
returns c = clients_search_with_memory
