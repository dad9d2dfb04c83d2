use Rattle.host_laws.proofs.MemorySteps.{clients_have_memory}
use Rattle.host_laws.proofs.laws.clients_have_memory.Goals as goal

pub returns : goal.returns
returns c = clients_have_memory
