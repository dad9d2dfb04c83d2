use Rattle.request_laws.proofs.LessHeard.{heard_runs_gain_less}
use Rattle.request_laws.proofs.heard_runs_gain_less.Goals as goal

pub returns : goal.returns
returns c = heard_runs_gain_less
