use Rattle.scenario_laws.proofs.Clauses.{scenarios_end}
use Rattle.scenario_laws.proofs.scenarios_end.Goals as goal

pub returns : goal.returns
returns c = scenarios_end
