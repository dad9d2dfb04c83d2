use Rattle.host_laws.proofs.Pushing.{clients_open}
use Rattle.host_laws.proofs.laws.clients_open.Goals as goal

pub returns : goal.returns
returns c = clients_open
