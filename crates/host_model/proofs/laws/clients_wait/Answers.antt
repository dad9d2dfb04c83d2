use Rattle.host_model.proofs.Halting.{clients_wait}
use Rattle.host_model.proofs.laws.clients_wait.Goals as goal

pub returns : goal.returns
returns c = clients_wait
