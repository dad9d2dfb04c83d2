use Rattle.scenario_laws.proofs.Orderly.{servers-are_orderly}
use Rattle.scenario_laws.proofs.servers_are_orderly.Goals as goal

pub returns : goal.returns
returns c = servers-are_orderly
