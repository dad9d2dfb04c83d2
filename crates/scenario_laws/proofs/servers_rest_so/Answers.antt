use Rattle.scenario_laws.proofs.FreeServers.{servers_rest_so}
use Rattle.scenario_laws.proofs.servers_rest_so.Goals as goal

pub returns : goal.returns
returns c = servers_rest_so
