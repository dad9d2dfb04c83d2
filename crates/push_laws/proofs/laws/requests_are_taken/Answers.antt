use Rattle.push_laws.proofs.Taken.{requests-are_taken}
use Rattle.push_laws.proofs.laws.requests_are_taken.Goals as goal

pub returns : goal.returns
returns c = requests-are_taken
