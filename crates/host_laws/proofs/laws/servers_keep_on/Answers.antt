use Rattle.host_laws.proofs.Keeping.{servers_keep_on}
use Rattle.host_laws.proofs.laws.servers_keep_on.Goals as goal

pub returns : goal.returns
returns c = servers_keep_on
