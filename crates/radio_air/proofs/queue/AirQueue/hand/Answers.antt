use Rattle.std.proofs.Common.{◌≤◌, ◌<◌, ◌≡◌, ◌-◌, length, min, take, drop, sym, ap, subst, ◌∙◌, arith}
use Rattle.radio_air.proofs.Handing.{handed_is, handed_on, handed_all}
use Rattle.radio_air.proofs.queue.AirQueue.hand.Goals as goal

pub returns-then-self-clause-handed : goal.returns-then-self-clause-handed
returns-then-self-clause-handed c =
    let here = c.self.inside in
    let before : here.gone < here.handing = omega (arith, c.if-left-eq0.false) in
    let count = c.min-length.ensures ∙ ap (λ n. min (here.handing - here.gone) n) c.from.ensures in
    rw (← c.self.view_is)
    (handed_is c.args.handle here.size here.handing here.gone here.leaving c.min-length.result c.put_piece-count.result here.frames c.args.into.now c.put_piece-count.new.into c.self.invariant before count c.put_piece-count.ensures.written c.put_piece-count.ensures.word (λ i. omega (arith, c.type_inv.into i)))

pub returns-else-self-clause-handed : goal.returns-else-self-clause-handed
returns-else-self-clause-handed c =
    let here = c.self.inside in
    let before : here.gone < here.handing = omega (arith, c.if-left-eq0.false) in
    let count = c.min-length.ensures ∙ ap (λ n. min (here.handing - here.gone) n) c.from.ensures in
    rw (← c.self.view_is)
    (handed_is c.args.handle here.size here.handing here.gone here.leaving c.min-length.result c.put_piece-count.result here.frames c.args.into.now c.put_piece-count.new.into c.self.invariant before count c.put_piece-count.ensures.written c.put_piece-count.ensures.word (λ i. omega (arith, c.type_inv.into i)))

pub returns-then-self-clause-queue : goal.returns-then-self-clause-queue
returns-then-self-clause-queue c =
    let here = c.self.inside in
    let before : here.gone < here.handing = omega (arith, c.if-left-eq0.false) in
    let count = c.min-length.ensures ∙ ap (λ n. min (here.handing - here.gone) n) c.from.ensures in
    rw (← c.self.view_is) (handed_all here.size here.handing here.gone here.leaving c.min-length.result here.frames c.leave.new.self c.self.invariant before count c.if-self.true c.leave.ensures)

pub returns-else-self-clause-queue : goal.returns-else-self-clause-queue
returns-else-self-clause-queue c =
    let here = c.self.inside in
    let before : here.gone < here.handing = omega (arith, c.if-left-eq0.false) in
    let count = c.min-length.ensures ∙ ap (λ n. min (here.handing - here.gone) n) c.from.ensures in
    rw (← c.self.view_is) (handed_on here.size here.handing here.gone here.leaving c.min-length.result here.frames c.self.invariant before count)
