use Rattle.host_laws.proofs.Freeing.{servers_fire_plainly}
use Rattle.host_laws.proofs.laws.servers_fire_plainly.Goals as goal

pub returns : goal.returns
returns c = servers_fire_plainly
