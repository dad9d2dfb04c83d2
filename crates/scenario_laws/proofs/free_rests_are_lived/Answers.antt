use Rattle.scenario_laws.proofs.Free.{free_rests_are_lived}
use Rattle.scenario_laws.proofs.free_rests_are_lived.Goals as goal

pub returns : goal.returns
returns c = free_rests_are_lived
