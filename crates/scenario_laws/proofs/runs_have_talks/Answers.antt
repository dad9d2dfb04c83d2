use Rattle.scenario_laws.proofs.Coming.{runs_have_talks}
use Rattle.scenario_laws.proofs.runs_have_talks.Goals as goal

pub returns : goal.returns
returns c = runs_have_talks
