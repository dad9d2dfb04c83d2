use Rattle.host_laws.proofs.Freeing.{hosts_hold_back_nothing}
use Rattle.host_laws.proofs.laws.hosts_hold_back_nothing.Goals as goal

pub returns : goal.returns
returns c = hosts_hold_back_nothing
