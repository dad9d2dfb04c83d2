use Rattle.scenario_laws.proofs.SetHosts.{set_hosts_are_hosts}
use Rattle.scenario_laws.proofs.set_hosts_are_hosts.Goals as goal

pub returns : goal.returns
returns c = set_hosts_are_hosts
