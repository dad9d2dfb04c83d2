use Rattle.capture.proofs.Completing.{pdus_more}
use Rattle.capture.proofs.readers.completing.pdus.Goals as goal

pub loop-moved-preserved : goal.loop-moved-preserved
loop-moved-preserved c =
    pdus_more c.args.link.now.handle c.args.link.now.moves.items c.deref-moved-items.result.now c.loop-moved.moved-index _ _ _ c.take.new.self c.deref-moved-items.ensures.value
    c.loop-moved-test.true c.loop-moved.invariant.0 (c.in_ok-take.ensures _ c.loop-moved.invariant.1)
