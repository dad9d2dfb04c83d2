use Rattle.window_laws.proofs.Runs.{runs-hold_absolutely}
use Rattle.window_laws.proofs.runs_hold_absolutely.Goals as goal

pub returns : goal.returns
returns c = runs-hold_absolutely
