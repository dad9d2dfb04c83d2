use Rattle.request_laws.proofs.Runs.{runs_are_fed}
use Rattle.request_laws.proofs.runs_are_fed.Goals as goal

pub returns : goal.returns
returns c = runs_are_fed
