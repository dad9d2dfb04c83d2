use Rattle.three_wire.specs.Going.{pair_of}
use Rattle.three_wire.proofs.Going.{goes_forth_by, goes_back_by}
use Rattle.three_wire.proofs.ends.Ends.cross_by.Goals as goal

pub returns-in-Forth-clause-goes : goal.returns-in-Forth-clause-goes
returns-in-Forth-clause-goes g c =
    goes_forth_by c.args.way (pair_of c.args.self.now) (record { first = c.cross-crossed.new.from; second = c.cross-crossed.new.to; draws = c.cross-crossed.new.medium.draws })
    (g.K.Sink.content c.args.sink.now) (g.K.Sink.content c.cross-crossed.new.sink) (g.T.Sink.content c.args.trace.now) (g.T.Sink.content c.cross-crossed.new.trace) c.cross-crossed.result c.in-Forth.is c.cross-crossed.ensures.crossed

pub returns-in-Back-clause-goes : goal.returns-in-Back-clause-goes
returns-in-Back-clause-goes g c =
    goes_back_by c.args.way (pair_of c.args.self.now) (record { first = c.cross-crossed-in-Back.new.to; second = c.cross-crossed-in-Back.new.from; draws = c.cross-crossed-in-Back.new.medium.draws })
    (g.K.Sink.content c.args.sink.now) (g.K.Sink.content c.cross-crossed-in-Back.new.sink) (g.T.Sink.content c.args.trace.now) (g.T.Sink.content c.cross-crossed-in-Back.new.trace) c.cross-crossed-in-Back.result c.in-Back.is c.cross-crossed-in-Back.ensures.crossed
