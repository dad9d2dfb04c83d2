use Rattle.scenario_laws.proofs.FreeClients.{clients_live_over_links}
use Rattle.scenario_laws.proofs.clients_live_over_links.Goals as goal

pub returns : goal.returns
returns c = clients_live_over_links
