use Rattle.holding_laws.proofs.Holding.{clients_hold}
use Rattle.holding_laws.proofs.clients_hold.Goals as goal

pub returns : goal.returns
returns g c = clients_hold
