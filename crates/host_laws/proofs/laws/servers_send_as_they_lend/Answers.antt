use Rattle.host_laws.proofs.Keeping.{servers_send_as_they_lend}
use Rattle.host_laws.proofs.laws.servers_send_as_they_lend.Goals as goal

pub returns : goal.returns
returns c = servers_send_as_they_lend
