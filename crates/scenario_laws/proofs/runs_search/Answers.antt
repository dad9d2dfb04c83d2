use Rattle.scenario_laws.proofs.Searched.{runs_search}
use Rattle.scenario_laws.proofs.runs_search.Goals as goal

pub returns : goal.returns
returns c = runs_search
