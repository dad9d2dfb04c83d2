use Rattle.scenario_laws.proofs.Orderly.{servers-are_asked_once}
use Rattle.scenario_laws.proofs.servers_are_asked_once.Goals as goal

pub returns : goal.returns
returns c = servers-are_asked_once
