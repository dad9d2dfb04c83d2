use Rattle.std.proofs.Common.{refl}
use Rattle.three_wire.proofs.Carrying.{carries_none}
use Rattle.three_wire.proofs.carriage.Carriage.new.Goals as goal

pub returns : goal.returns
returns c = λ input sink trace. carries_none c.args.number input sink trace _ c.in_ok-new.ensures.pair c.in_ok-new.ensures.sound c.in_ok-new-2.ensures.shape (c.in_ok-new-2.ensures.feeding input) refl refl refl
