use Rattle.cause_laws.proofs.Runs.{runs_show_causes}
use Rattle.cause_laws.proofs.runs_show_causes.Goals as goal

pub returns : goal.returns
returns c = runs_show_causes
