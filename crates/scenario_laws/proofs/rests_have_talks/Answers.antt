use Rattle.scenario_laws.proofs.Coming.{rests_have_talks}
use Rattle.scenario_laws.proofs.rests_have_talks.Goals as goal

pub returns : goal.returns
returns c = rests_have_talks
