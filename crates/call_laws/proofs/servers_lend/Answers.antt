use Rattle.call_laws.proofs.Calling.{servers_lend}
use Rattle.call_laws.proofs.servers_lend.Goals as goal

pub returns : goal.returns
returns g c = servers_lend
