use Rattle.scenario_laws.proofs.PlainRuns.{runs_are_plain}
use Rattle.scenario_laws.proofs.runs_are_plain.Goals as goal

pub returns : goal.returns
returns c = runs_are_plain
