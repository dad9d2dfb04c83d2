use Rattle.host_laws.proofs.Pushing.{clients_are_pushed}
use Rattle.host_laws.proofs.laws.clients_are_pushed.Goals as goal

pub returns : goal.returns
returns c = clients_are_pushed
