use Rattle.std.proofs.Common.{◌≤◌, ◌<◌, length, drop, subst, sym, ap, ◌∙◌, arith}
use Rattle.radio_model.specs.Radio.{first_or_nothing}
use Rattle.radio_air.proofs.Queueing.{still_is, still_frames, queue_still, queue_begun, begun_nothing, begun_some}
use Rattle.radio_air.proofs.queue.AirQueue.begin.Goals as goal

pub invariant_of-self : goal.invariant_of-self
invariant_of-self c =
    let here = c.self.inside in
    let none = rw (← c.self.view_is) at c.requires.still in
    let begun = ap (λ kept. length kept.begun) c.leave.ensures in
    queue_still here.size here.handing here.gone here.leaving c.leave.new.self c.self.invariant.sized (still_is here.size here.handing here.gone here.leaving here.frames c.self.invariant none)
    (λ some. omega (arith, begun, c.self.invariant.headed (omega (arith, begun))))

pub returns-then-handing-eq0 : goal.returns-then-handing-eq0
returns-then-handing-eq0 c =
    let here = c.self.inside in
    let none = rw (← c.self.view_is) at c.requires.still in
    rw (← c.self.view_is)
    (begun_nothing here.size here.handing here.gone here.leaving c.args.handing c.args.leaving here.frames c.leave.new.self (still_is here.size here.handing here.gone here.leaving here.frames c.self.invariant none) c.if-handing-eq0.true c.leave.ensures)

pub invariant_of-self-else-handing-eq0 : goal.invariant_of-self-else-handing-eq0
invariant_of-self-else-handing-eq0 c =
    let here = c.self.inside in
    let none = rw (← c.self.view_is) at c.requires.still in
    let all = still_frames here.size here.handing here.gone here.leaving here.frames c.self.invariant none in
    let octets = rw (← c.self.view_is) at c.requires.octets in
    let frames = rw (← c.self.view_is) at c.requires.frames in
    queue_begun here.size here.handing here.gone here.leaving c.args.handing c.args.leaving here.frames c.self.invariant (still_is here.size here.handing here.gone here.leaving here.frames c.self.invariant none) c.if-handing-eq0.false
    (subst (λ waiting. c.args.handing ≤ length (first_or_nothing waiting)) all octets) (subst (λ waiting. c.args.leaving ≤ length waiting) all frames)

pub returns-else-handing-eq0 : goal.returns-else-handing-eq0
returns-else-handing-eq0 c =
    let here = c.self.inside in
    let none = rw (← c.self.view_is) at c.requires.still in
    rw (← c.self.view_is)
    (begun_some here.size here.handing here.gone here.leaving c.args.handing c.args.leaving here.frames (still_is here.size here.handing here.gone here.leaving here.frames c.self.invariant none))
