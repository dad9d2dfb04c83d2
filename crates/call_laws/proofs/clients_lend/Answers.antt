use Rattle.call_laws.proofs.Calling.{clients_lend}
use Rattle.call_laws.proofs.clients_lend.Goals as goal

pub returns : goal.returns
returns g c = clients_lend
