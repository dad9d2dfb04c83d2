use Rattle.std.proofs.Common.{refl}
use Rattle.three_wire.proofs.Feeding.{fed_new}
use Rattle.three_wire.proofs.feed.Feed.new.Goals as goal

pub returns-clause-feeding : goal.returns-clause-feeding
returns-clause-feeding c = λ input. fed_new _ input c.in_ok-new.ensures refl refl refl
