use Rattle.push_model.proofs.StreamLaws.{whole_front, partial_front, broken_front}
use Rattle.push_model.proofs.laws.fronts_are_right.Goals as goal

pub returns : goal.returns
returns c = record { whole = whole_front; partial = partial_front; broken = broken_front }
