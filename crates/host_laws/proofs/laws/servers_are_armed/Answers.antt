use Rattle.host_laws.proofs.Arming.{servers-are_armed}
use Rattle.host_laws.proofs.laws.servers_are_armed.Goals as goal

pub returns : goal.returns
returns c = servers-are_armed
