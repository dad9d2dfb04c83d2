use Rattle.scenario_laws.proofs.Keeping.{free_servers_keep_on}
use Rattle.scenario_laws.proofs.free_servers_keep_on.Goals as goal

pub returns : goal.returns
returns c = free_servers_keep_on
