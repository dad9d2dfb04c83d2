use Rattle.credit_laws.proofs.Runs.{heard-runs_hold}
use Rattle.credit_laws.proofs.heard_runs_hold_credits.Goals as goal

pub returns : goal.returns
returns c = heard-runs_hold
