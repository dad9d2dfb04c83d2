use Rattle.std.proofs.Common.{arith}
use Rattle.radio_world.proofs.Leaving.{taken_more, taken_all, cut_off, breaks_off, overflows}
use Rattle.radio_world.proofs.Blaming.{stays_ok}
use Rattle.radio_world.proofs.Wanting.{any_err, lacks_ok, lacks_on}
use Rattle.radio_world.proofs.medium.Medium.take_all.Goals as goal

pub returns-in_err-take_one-clause-broken : goal.returns-in_err-take_one-clause-broken
returns-in_err-take_one-clause-broken g c =
    any_err c.from_residual.result (λ orders sent spelled.
    breaks_off c.args.side orders c.loop-unit.rest.now c.in-Whole.unit c.in-Whole.n c.args.self.now c.loop-unit.self (g.T.Sink.content c.args.trace.now) (g.T.Sink.content c.loop-unit.trace) (g.T.Sink.content c.take_one.new.trace)
    (c.loop-unit.invariant.0 orders sent spelled) c.in-Whole.ensures c.take_one.ensures.front)

pub loop-unit-preserved : goal.loop-unit-preserved
loop-unit-preserved g c = (
  λ orders sent spelled.
      taken_more c.args.side orders c.loop-unit.rest.now _ c.in-Whole.unit c.in-Whole.n c.args.self.now c.loop-unit.self c.take_one.new.self (g.T.Sink.content c.args.trace.now) (g.T.Sink.content c.loop-unit.trace) (g.T.Sink.content c.take_one.new.trace)
      (c.loop-unit.invariant.0 orders sent spelled) c.in-Whole.ensures c.in_ok-take_one.ensures.medium c.in_ok-take_one.ensures.written (cut_off c.loop-unit.rest.now c.in-Whole.n),
  omega (arith, c.loop-unit.invariant.1, c.take_one.ensures.blames.stays),
  omega (arith, c.loop-unit.invariant.2, c.take_one.ensures.lacks.stays),
)

pub returns : goal.returns
returns g c = record {
  moved = λ orders sent spelled.
      taken_all c.args.side orders c.loop-unit.rest.now c.first.result c.args.self.now c.loop-unit.self (g.T.Sink.content c.args.trace.now) (g.T.Sink.content c.loop-unit.trace)
      (c.loop-unit.invariant.0 orders sent spelled) c.first.ensures c.in_default.not-Whole;
  broken = tt;
  blames = stays_ok _ _ tt c.loop-unit.invariant.1;
  lacks = lacks_ok _ _ _ tt c.loop-unit.invariant.2;
}

pub returns-in_err-take_one-clause-lacks : goal.returns-in_err-take_one-clause-lacks
returns-in_err-take_one-clause-lacks g c =
    lacks_on _ _ _ _ _ c.take_one.result c.from_residual.result c.in_err-take_one.field-0.0 c.from_residual.ensures.1 c.in_err-take_one.was c.loop-unit.invariant.2
    (λ cause orders sent spelled.
    overflows c.args.side orders c.loop-unit.rest.now c.in-Whole.unit c.in-Whole.n c.args.self.now c.loop-unit.self (g.T.Sink.content c.args.trace.now) (g.T.Sink.content c.loop-unit.trace) (g.T.Sink.content c.take_one.new.trace)
    (c.loop-unit.invariant.0 orders sent spelled) c.in-Whole.ensures cause.0 cause.1) c.take_one.ensures.lacks
