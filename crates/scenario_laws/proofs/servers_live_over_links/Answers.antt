use Rattle.scenario_laws.proofs.FreeServers.{servers_live_over_links}
use Rattle.scenario_laws.proofs.servers_live_over_links.Goals as goal

pub returns : goal.returns
returns c = servers_live_over_links
