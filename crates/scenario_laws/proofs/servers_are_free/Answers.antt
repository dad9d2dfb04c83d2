use Rattle.scenario_laws.proofs.FreeServers.{servers_are_free}
use Rattle.scenario_laws.proofs.servers_are_free.Goals as goal

pub returns : goal.returns
returns c = servers_are_free
