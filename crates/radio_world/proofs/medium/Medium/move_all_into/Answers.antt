use Rattle.std.proofs.Common.{refl, ap, arith}
use Rattle.radio_world.proofs.Moving.{goes_none}
use Rattle.radio_world.specs.Counting.{one_if}
use Rattle.radio_world.proofs.Tallying.{goes_by_any, goes_by_then}
use Rattle.radio_world.proofs.Hearing.{heard_then}
use Rattle.radio_world.proofs.Wanting.{any_err, lacks_on}
use Rattle.radio_world.proofs.Breaking.{goes_broken_then}
use Rattle.radio_world.proofs.medium.Medium.move_all_into.Goals as goal

pub loop-moved-init : goal.loop-moved-init
loop-moved-init g c =
    let host = g.H.Host in (
      goes_by_any host.machine c.args.side host.answers _ _ _ _ _ _ _ _
          (goes_none host.machine c.args.side host.answers c.args.self.now (host.station c.args.host.now c.args.port.now) c.args.port.now (g.T.Sink.content c.args.trace.now) g.met.H.Host.joins),
      λ none. (refl, refl),
      c.requires.none_held,
      c.requires.sound,
      omega arith,
      omega arith,
    )

pub move_into-requires-clause-heard : goal.move_into-requires-clause-heard
move_into-requires-clause-heard g c =
    let host = g.H.Host in
    heard_then host.machine c.args.side host.answers c.args.self.now c.loop-moved.self (host.station c.args.host.now c.args.port.now) (host.station c.loop-moved.host c.loop-moved.port) c.args.port.now c.loop-moved.port
    (g.T.Sink.content c.args.trace.now) (g.T.Sink.content c.loop-moved.trace) c.loop-moved.invariant.0.goes c.requires.heard

pub loop-moved-preserved : goal.loop-moved-preserved
loop-moved-preserved g c =
    let host = g.H.Host in
    let one = ap one_if c.if-branch.true in (
      goes_by_then (one_if c.loop-moved.moved) (one_if c.in_ok-move_into.field-0) 1 host.machine c.args.side host.answers c.args.self.now c.loop-moved.self c.move_into.new.self (host.station c.args.host.now c.args.port.now) (host.station c.loop-moved.host c.loop-moved.port) (host.station c.move_into.new.host c.move_into.new.port)
          c.args.port.now c.loop-moved.port c.move_into.new.port (g.T.Sink.content c.args.trace.now) (g.T.Sink.content c.loop-moved.trace) (g.T.Sink.content c.move_into.new.trace) g.met.H.Host.joins (omega arith)
          c.loop-moved.invariant.0 c.in_ok-move_into.ensures.goes,
      λ none. absurd cc,
      c.in_ok-move_into.ensures.none_held,
      c.in_ok-move_into.ensures.sound,
      omega (arith, c.loop-moved.invariant.4, c.move_into.ensures.blames.stays),
      omega (arith, c.loop-moved.invariant.5, c.move_into.ensures.lacks.stays),
    )

pub returns-clause-goes : goal.returns-clause-goes
returns-clause-goes g c =
    let host = g.H.Host in
    goes_by_then (one_if c.loop-moved.moved) (one_if c.in_ok-move_into.field-0) (one_if c.loop-moved.moved) host.machine c.args.side host.answers c.args.self.now c.loop-moved.self c.move_into.new.self (host.station c.args.host.now c.args.port.now) (host.station c.loop-moved.host c.loop-moved.port) (host.station c.move_into.new.host c.move_into.new.port)
    c.args.port.now c.loop-moved.port c.move_into.new.port (g.T.Sink.content c.args.trace.now) (g.T.Sink.content c.loop-moved.trace) (g.T.Sink.content c.move_into.new.trace) g.met.H.Host.joins (omega arith)
    c.loop-moved.invariant.0 c.in_ok-move_into.ensures.goes

pub returns-in_err-move_into-clause-lacks : goal.returns-in_err-move_into-clause-lacks
returns-in_err-move_into-clause-lacks g c =
    lacks_on _ _ _ _ _ c.move_into.result c.from_residual.result c.in_err-move_into.field-0.0 c.from_residual.ensures.1 c.in_err-move_into.was c.loop-moved.invariant.5
    (λ cause. g.met.H.Host.lacks c.args.port.now c.loop-moved.port c.move_into.new.port c.loop-moved.invariant.0.goes.used c.loop-moved.invariant.0.goes.answered cause) c.move_into.ensures.lacks

pub returns-in_err-move_into-clause-breaks : goal.returns-in_err-move_into-clause-breaks
returns-in_err-move_into-clause-breaks g c =
    let host = g.H.Host in
    let content = g.T.Sink.content in
    any_err c.from_residual.result
    (goes_broken_then host.machine c.args.side host.answers host.lacked host.station g.met.H.Host.joins c.args.self.now c.loop-moved.self (host.station c.args.host.now c.args.port.now) (host.station c.loop-moved.host c.loop-moved.port)
    c.args.port.now c.loop-moved.port c.move_into.new.port (content c.args.trace.now) (content c.loop-moved.trace) (content c.move_into.new.trace) c.loop-moved.invariant.0.goes c.in_err-move_into.ensures.breaks)
