use Rattle.credit_laws.proofs.Staying.{runs-stay_solvent}
use Rattle.credit_laws.proofs.runs_stay_solvent.Goals as goal

pub returns : goal.returns
returns c = runs-stay_solvent
