use Rattle.std.proofs.Common.{Err, refl}
use Rattle.three_wire.proofs.Carrying.{carries_round, carries_broke, port_stops}
use Rattle.three_wire.proofs.carriage.Carriage.pass.Goals as goal

pub returns-in-Ok-clause-goes : goal.returns-in-Ok-clause-goes
returns-in-Ok-clause-goes g c = λ given left k.
    carries_round given left (g.K.Sink.content c.args.sink.now) (g.K.Sink.content c.pass.new.sink) (g.T.Sink.content c.args.trace.now) (g.T.Sink.content c.pass.new.trace)
    c.args.self.now _ k c.requires.cause c.in-Ok.ensures.passed c.in-Ok.ensures.sound refl refl refl refl c.requires.in_time

pub returns-in-Err-clause-goes : goal.returns-in-Err-clause-goes
returns-in-Err-clause-goes g c = λ given left k.
    carries_broke given left (g.K.Sink.content c.args.sink.now) (g.K.Sink.content c.pass.new.sink) (g.T.Sink.content c.args.trace.now) (g.T.Sink.content c.pass.new.trace)
    c.args.self.now (Unit {0}) (Err c.in-Err.fault) k tt (λ events last. port_stops given.input k.packets c.in-Err.fault _ _ _ _ _ _ _ _ c.in-Err.ensures.blame) c.in-Err.ensures.passed
