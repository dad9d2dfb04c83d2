use Rattle.credit_laws.proofs.Runs.{runs-hold_credits}
use Rattle.credit_laws.proofs.runs_hold_credits.Goals as goal

pub returns : goal.returns
returns c = runs-hold_credits
