use Rattle.push_laws.proofs.Parties.{requests-come_in_turn}
use Rattle.push_laws.proofs.laws.requests_come_in_turn.Goals as goal

pub returns : goal.returns
returns c = requests-come_in_turn
