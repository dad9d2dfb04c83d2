use Rattle.request_laws.proofs.AllSizes.{runs_gain_all}
use Rattle.request_laws.proofs.runs_gain_all.Goals as goal

pub returns : goal.returns
returns c = runs_gain_all
