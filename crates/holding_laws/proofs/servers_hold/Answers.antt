use Rattle.holding_laws.proofs.Holding.{servers_hold}
use Rattle.holding_laws.proofs.servers_hold.Goals as goal

pub returns : goal.returns
returns g c = servers_hold
