use Rattle.wire_model.proofs.Rounding.{rounds_few}
use Rattle.wire_model.proofs.laws.rounds_are_few.Goals as goal

pub returns : goal.returns
returns c number rounds last r = rounds_few number rounds last r
