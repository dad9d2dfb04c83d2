use Rattle.std.proofs.Common.{[], Ok, refl, ap, arith}
use Rattle.radio_world.specs.Counting.{one_if}
use Rattle.radio_world.proofs.Advancing.{advances_none, advances_then}
use Rattle.radio_world.proofs.Lowering.{settling_lowers}
use Rattle.radio_world.proofs.Reasons.{wants_behind}
use Rattle.radio_world.proofs.Standing.{reached_then}
use Rattle.radio_world.proofs.Wanting.{any_err, lacks_on}
use Rattle.radio_world.proofs.Broken.{broken_then}
use Rattle.radio_world.proofs.scene.Scene.settle.Goals as goal

pub rounds-init : goal.rounds-init
rounds-init g c =
    let one = g.A.Host in
    let two = g.B.Host in
    (advances_none one.machine two.machine one.answers two.answers _ g.met.A.Host.joins g.met.B.Host.joins, c.requires.none_held, c.requires.sound, omega arith, c.requires.none_back, omega arith)

pub round-requires-clause-reached : goal.round-requires-clause-reached
round-requires-clause-reached g c =
    let one = g.A.Host in
    let two = g.B.Host in
    reached_then one.machine two.machine one.answers two.answers [] _ _ c.rounds.invariant.0 c.requires.reached

pub rounds-preserved : goal.rounds-preserved
rounds-preserved g c =
    let one = g.A.Host in
    let two = g.B.Host in (
      advances_then one.machine two.machine one.answers two.answers [] [] _ _ _ g.met.A.Host.joins g.met.B.Host.joins c.rounds.invariant.0 c.in_ok-round.ensures.advances.advances,
      c.in_ok-round.ensures.none_held,
      c.in_ok-round.ensures.sound,
      omega (arith, c.rounds.invariant.3, c.round.ensures.blames.stays),
      c.in_ok-round.ensures.none_back,
      omega (arith, c.rounds.invariant.5, c.round.ensures.lacks.stays),
    )

pub rounds-smaller : goal.rounds-smaller
rounds-smaller g c =
    let one = g.A.Host in
    let two = g.B.Host in
    let some = ap one_if c.if-branch.true in
    settling_lowers one.machine two.machine one.answers two.answers one.most_more two.most_more (one_if c.in_ok-round.field-0) _ _ c.requires.orderly g.met.A.Host.speaks.few g.met.B.Host.speaks.few
    (g.met.A.Host.speaks.steady c.rounds.a c.rounds.shelf) (g.met.B.Host.speaks.steady c.rounds.b c.rounds.inbox)
    (reached_then one.machine two.machine one.answers two.answers [] _ _ c.rounds.invariant.0 c.requires.reached) (omega (arith, some)) c.in_ok-round.ensures.advances

pub returns-clause-advances : goal.returns-clause-advances
returns-clause-advances g c =
    let one = g.A.Host in
    let two = g.B.Host in
    advances_then one.machine two.machine one.answers two.answers [] [] _ _ _ g.met.A.Host.joins g.met.B.Host.joins c.rounds.invariant.0 c.in_ok-round.ensures.advances.advances

pub returns-clause-settled : goal.returns-clause-settled
returns-clause-settled g c = c.in_ok-round.ensures.settled (ap Ok c.if-branch.false)

pub returns-in_err-round-clause-lacks : goal.returns-in_err-round-clause-lacks
returns-in_err-round-clause-lacks g c =
    let one = g.A.Host in
    let two = g.B.Host in
    lacks_on _ _ _ _ _ c.round.result c.from_residual.result c.in_err-round.field-0.0 c.from_residual.ensures.1 c.in_err-round.was c.rounds.invariant.5
    (λ cause. wants_behind one.machine two.machine one.answers two.answers one.lacked two.lacked [] [] [] [] _ _ _ _ _ g.met.A.Host.joins g.met.B.Host.joins g.met.A.Host.lacks g.met.B.Host.lacks refl c.rounds.invariant.0 cause)
    c.round.ensures.lacks

pub returns-in_err-round-clause-breaks : goal.returns-in_err-round-clause-breaks
returns-in_err-round-clause-breaks g c =
    let one = g.A.Host in
    let two = g.B.Host in
    any_err c.from_residual.result
    (broken_then one.machine two.machine one.answers two.answers one.lacked two.lacked two.station g.met.A.Host.joins g.met.B.Host.joins [] [] [] [] _ _ _ _ _ refl c.rounds.invariant.0 c.in_err-round.ensures.breaks)
