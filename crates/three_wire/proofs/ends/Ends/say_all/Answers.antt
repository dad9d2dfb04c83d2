use Rattle.std.proofs.Common.{◌∙◌, Ok, ap, sym, subst}
use Rattle.three_wire.specs.Going.{pair_of, WentSo, Goes}
use Rattle.three_wire.proofs.Going.{so_more, so_broke, steady_then}
use Rattle.three_wire.proofs.ends.Ends.say_all.Goals as goal

pub saying-preserved : goal.saying-preserved
saying-preserved g c = record {
  went = subst (WentSo c.args.way (pair_of c.args.self.now) (pair_of c.cross_by.new.self) (g.K.Sink.content c.args.sink.now) (g.K.Sink.content c.cross_by.new.sink) (g.T.Sink.content c.args.trace.now) (g.T.Sink.content c.cross_by.new.trace)) (sym c.more-said.ensures)
      (so_more c.args.way (pair_of c.args.self.now) (pair_of c.saying.self) (pair_of c.cross_by.new.self)
      (g.K.Sink.content c.args.sink.now) (g.K.Sink.content c.saying.sink) (g.K.Sink.content c.cross_by.new.sink) (g.T.Sink.content c.args.trace.now) (g.T.Sink.content c.saying.trace) (g.T.Sink.content c.cross_by.new.trace)
      c.saying.said c.in-Ok-Some.lost c.saying.invariant.went
      (subst (Goes c.args.way (pair_of c.saying.self) (pair_of c.cross_by.new.self) (g.K.Sink.content c.saying.sink) (g.K.Sink.content c.cross_by.new.sink) (g.T.Sink.content c.saying.trace) (g.T.Sink.content c.cross_by.new.trace))
      (c.in-Ok-Some.is ∙ ap Ok c.in-Ok-Some.field-0-is) c.cross_by.ensures.goes));
  sound = c.in-Ok-Some.ensures.sound;
  steady = steady_then _ _ _ _ _ _ _ _ _ _ _ _ c.saying.invariant.steady c.in-Ok-Some.ensures.steady;
}

pub returns-in-Err-clause-said : goal.returns-in-Err-clause-said
returns-in-Err-clause-said g c =
    so_broke c.args.way (pair_of c.args.self.now) (pair_of c.saying.self)
    (g.K.Sink.content c.args.sink.now) (g.K.Sink.content c.saying.sink) (g.K.Sink.content c.cross_by.new.sink) (g.T.Sink.content c.args.trace.now) (g.T.Sink.content c.saying.trace) (g.T.Sink.content c.cross_by.new.trace)
    c.saying.said c.saying.invariant.went c.in-Err.ensures.goes
