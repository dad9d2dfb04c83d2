use Rattle.scenario_laws.proofs.Freeing.{rests_are_free}
use Rattle.scenario_laws.proofs.rests_are_free.Goals as goal

pub returns : goal.returns
returns c = rests_are_free
