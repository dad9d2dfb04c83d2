use Rattle.push_laws.proofs.Parties.{requests-are_heard}
use Rattle.push_laws.proofs.laws.requests_are_heard.Goals as goal

pub returns : goal.returns
returns c = requests-are_heard
