use Rattle.push_laws.proofs.Answering.{answers-come_in_turn}
use Rattle.push_laws.proofs.laws.answers_come_in_turn.Goals as goal

pub returns : goal.returns
returns c = answers-come_in_turn
