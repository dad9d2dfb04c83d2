use Rattle.push_laws.proofs.Success.{done-exactly}
use Rattle.push_laws.proofs.client_laws.done_exactly.Goals as goal

pub returns : goal.returns
returns c = done-exactly
