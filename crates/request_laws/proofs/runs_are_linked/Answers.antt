use Rattle.request_laws.proofs.Linked.{runs_are_linked}
use Rattle.request_laws.proofs.runs_are_linked.Goals as goal

pub returns : goal.returns
returns c = runs_are_linked
