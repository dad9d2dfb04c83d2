use Rattle.scenario_laws.proofs.FreeClients.{clients_are_free}
use Rattle.scenario_laws.proofs.clients_are_free.Goals as goal

pub returns : goal.returns
returns c = clients_are_free
