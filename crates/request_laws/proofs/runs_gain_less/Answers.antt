use Rattle.request_laws.proofs.Losing.{runs_gain_less}
use Rattle.request_laws.proofs.runs_gain_less.Goals as goal

pub returns : goal.returns
returns c = runs_gain_less
