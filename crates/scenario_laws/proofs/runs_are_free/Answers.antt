use Rattle.scenario_laws.proofs.Freeing.{runs_are_free}
use Rattle.scenario_laws.proofs.runs_are_free.Goals as goal

pub returns : goal.returns
returns c = runs_are_free
