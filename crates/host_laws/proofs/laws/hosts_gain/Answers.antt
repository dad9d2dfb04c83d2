use Rattle.host_laws.proofs.Serving.{hosts_gain}
use Rattle.host_laws.proofs.laws.hosts_gain.Goals as goal

pub returns : goal.returns
returns c = hosts_gain
