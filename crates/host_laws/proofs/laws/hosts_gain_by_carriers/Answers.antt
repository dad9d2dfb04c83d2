use Rattle.host_laws.proofs.Carriers.{hosts_gain_by_carriers}
use Rattle.host_laws.proofs.laws.hosts_gain_by_carriers.Goals as goal

pub returns : goal.returns
returns c = hosts_gain_by_carriers
