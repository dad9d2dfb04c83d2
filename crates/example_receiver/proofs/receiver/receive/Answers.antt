use Rattle.std.proofs.Common.{Ok, length, ap, arith}
use Rattle.example_receiver.proofs.Ending.{left_at_end}
use Rattle.example_receiver.proofs.receiver.receive.Goals as goal

pub returns-then-n-eq0 : goal.returns-then-n-eq0
returns-then-n-eq0 g c =
    left_at_end c.in_ok-n.n (g.S.Source.content c.loop.source) (g.S.Source.content c.read.new.self) c.map_err.result c.if-n-eq0.true c.in_ok-n.ensures.read.content
    (c.in_ok-n.ensures.read.finish (ap Ok c.if-n-eq0.true) (omega arith))
