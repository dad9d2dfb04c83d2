use Rattle.turn_laws.proofs.Running.{broken_goes_on}
use Rattle.turn_laws.proofs.broken_runs_go_on.Goals as goal

pub returns : goal.returns
returns g c U V = broken_goes_on U V
