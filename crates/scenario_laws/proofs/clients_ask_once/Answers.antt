use Rattle.scenario_laws.proofs.Orderly.{clients-ask_once}
use Rattle.scenario_laws.proofs.clients_ask_once.Goals as goal

pub returns : goal.returns
returns c = clients-ask_once
