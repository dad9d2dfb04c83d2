use Rattle.scenario_laws.proofs.First.{first_servers_are_orderly}
use Rattle.scenario_laws.proofs.first_servers_are_orderly.Goals as goal

pub returns : goal.returns
returns c = first_servers_are_orderly
