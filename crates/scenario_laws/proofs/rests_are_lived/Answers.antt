use Rattle.scenario_laws.proofs.Gentle.{rests_are_lived}
use Rattle.scenario_laws.proofs.rests_are_lived.Goals as goal

pub returns : goal.returns
returns c = rests_are_lived
