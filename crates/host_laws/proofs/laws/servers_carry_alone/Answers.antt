use Rattle.host_laws.proofs.OneOnLinks.{servers-carry_alone}
use Rattle.host_laws.proofs.laws.servers_carry_alone.Goals as goal

pub returns : goal.returns
returns c = servers-carry_alone
