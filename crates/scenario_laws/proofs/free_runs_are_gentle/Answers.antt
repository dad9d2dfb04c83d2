use Rattle.scenario_laws.proofs.Free.{free_runs_are_gentle}
use Rattle.scenario_laws.proofs.free_runs_are_gentle.Goals as goal

pub returns : goal.returns
returns c = free_runs_are_gentle
