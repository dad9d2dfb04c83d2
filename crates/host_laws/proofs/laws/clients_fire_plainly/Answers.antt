use Rattle.host_laws.proofs.Freeing.{clients_fire_plainly}
use Rattle.host_laws.proofs.laws.clients_fire_plainly.Goals as goal

pub returns : goal.returns
returns c = clients_fire_plainly
