use Rattle.capture.proofs.OneFront.{one_front}
use Rattle.capture.proofs.laws.fronts_are_read_in_one_way.Goals as goal

pub returns : goal.returns
returns c = one_front
