use Rattle.std.proofs.Common.{arith}
use Rattle.item_stream.proofs.Telling.{told_none, told_next}
use Rattle.item_stream.proofs.run.tell_items.Goals as goal

pub loop-front-init : goal.loop-front-init
loop-front-init g c = (omega arith, told_none _ _ _ _)

pub loop-front-preserved : goal.loop-front-preserved
loop-front-preserved g c = told_next _ g.T.Teller.finds _ _ _ _ _ _ _ c.loop-front.used c.in-Item.n c.in_ok-front.front c.loop-front.invariant c.in-Item.is c.in_ok-front.ensures
