use Rattle.pair_laws.proofs.Windows.{runs_hold}
use Rattle.pair_laws.proofs.runs_hold_windows.Goals as goal

pub returns : goal.returns
returns c = runs_hold c.windows_hold.ensures
