use Rattle.scenario_laws.proofs.Free.{free_hosts_are_plain}
use Rattle.scenario_laws.proofs.free_hosts_are_plain.Goals as goal

pub returns : goal.returns
returns c = free_hosts_are_plain
