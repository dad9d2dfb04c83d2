use Rattle.asking_laws.proofs.Holding.{clients-hold_one}
use Rattle.asking_laws.proofs.clients_hold_one.Goals as goal

pub returns : goal.returns
returns c = clients-hold_one
