use Rattle.wire_model.specs.declared.link.Way.TheVariants.{Forth}
use Rattle.three_wire.specs.Going.{pair_of}
use Rattle.three_wire.proofs.Going.{so_broke, round_of}
use Rattle.three_wire.proofs.ends.Ends.pass.Goals as goal

pub returns-in-Err-say_all-clause-passed : goal.returns-in-Err-say_all-clause-passed
returns-in-Err-say_all-clause-passed g c =
    so_broke Forth (pair_of c.args.self.now) (pair_of c.say_all.new.self)
    (g.K.Sink.content c.args.sink.now) (g.K.Sink.content c.say_all.new.sink) (g.K.Sink.content c.say_all-2.new.sink) (g.T.Sink.content c.args.trace.now) (g.T.Sink.content c.say_all.new.trace) (g.T.Sink.content c.say_all-2.new.trace)
    c.in-Ok.said c.in-Ok.ensures.said.0 c.in-Err-say_all.ensures.said

pub returns-clause-passed : goal.returns-clause-passed
returns-clause-passed g c =
    round_of (pair_of c.args.self.now) (pair_of c.say_all.new.self) (pair_of c.say_all-2.new.self) (pair_of c.ring_unless.new.self)
    (g.K.Sink.content c.args.sink.now) (g.K.Sink.content c.say_all.new.sink) (g.K.Sink.content c.say_all-2.new.sink) (g.T.Sink.content c.args.trace.now) (g.T.Sink.content c.say_all.new.trace) (g.T.Sink.content c.say_all-2.new.trace)
    c.in-Ok.said c.in-Ok-say_all.said c.in-Ok.ensures.said.0 c.in-Ok.ensures.said.1 c.in-Ok-say_all.ensures.said.0 c.in-Ok-say_all.ensures.said.1 c.ring_unless.ensures.rings
