use Rattle.std.proofs.Common.{refl, arith}
use Rattle.making.proofs.Telling.{passed, counted_all}
use Rattle.making.proofs.counting.done_in.Goals as goal

pub loop-preserved : goal.loop-preserved
loop-preserved c = passed _ c.loop.rest.now _ _ c.loop.counter _ c.loop.done _ c.tells_done.result c.loop-test.true refl c.parted.ensures.before c.parted.ensures.behind c.tells_done.ensures c.from-done.ensures c.loop.invariant

pub returns : goal.returns
returns c = counted_all c.args.report.now c.loop.rest.now c.loop.counter c.loop.done (omega (arith, c.loop-test.false)) c.loop.invariant
