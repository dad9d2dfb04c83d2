use Rattle.push_laws.proofs.Finding.{targets-are_served}
use Rattle.push_laws.proofs.laws.targets_are_served.Goals as goal

pub returns : goal.returns
returns c = targets-are_served
