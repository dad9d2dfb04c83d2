use Rattle.std.proofs.Common.{[]}
use Rattle.radio_world.proofs.Standing.{stands_then}
use Rattle.radio_world.proofs.scene.Scene.start.Goals as goal

pub returns-clause-stands : goal.returns-clause-stands
returns-clause-stands g c =
    let one = g.A.Host in
    let two = g.B.Host in
    let content = g.T.Sink.content in
    stands_then one.machine two.machine one.answers two.answers [] c.args.self.now c.settle.new.self (one.station c.args.a.now c.args.shelf.now) (one.station c.settle.new.a c.settle.new.shelf) (two.station c.args.b.now c.args.inbox.now) (two.station c.settle.new.b c.settle.new.inbox)
    c.args.shelf.now c.settle.new.shelf c.args.inbox.now c.settle.new.inbox (content c.args.trace.now) (content c.settle.new.trace)
    c.in_ok-settle.ensures.advances c.requires.reached c.in_ok-settle.ensures.settled
