use Rattle.host_laws.proofs.Asking.{hosts_ask}
use Rattle.host_laws.proofs.laws.hosts_ask.Goals as goal

pub returns : goal.returns
returns c = hosts_ask
