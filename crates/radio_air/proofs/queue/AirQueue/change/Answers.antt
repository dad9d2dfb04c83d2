use Rattle.std.proofs.Common.{◌≤◌, ◌<◌, ◌+◌, length, drop, subst, sym, ap, ◌∙◌, arith, refl}
use Rattle.std.specs.Prelude.{bit_xor, slice_index, ◌/◌, ◌%◌}
use Rattle.radio_model.specs.Radio.{first_or_nothing}
use Rattle.radio_air.proofs.Queueing.{still_is, still_frames, queue_changed, first_same}
use Rattle.radio_air.proofs.queue.AirQueue.change.Goals as goal

pub change_first-requires : goal.change_first-requires
change_first-requires c =
    let here = c.self.inside in
    let none = rw (← c.self.view_is) at c.requires.still in
    let within = rw (← c.self.view_is) at c.requires.within in
    let all = still_frames here.size here.handing here.gone here.leaving here.frames c.self.invariant none in
    omega (arith, c.from-at.ensures, subst (λ waiting. c.args.at + 1 < length (first_or_nothing waiting)) all within)

pub change_first-requires-2 : goal.change_first-requires-2
change_first-requires-2 c =
    let here = c.self.inside in
    let none = rw (← c.self.view_is) at c.requires.still in
    let within = rw (← c.self.view_is) at c.requires.within in
    let all = still_frames here.size here.handing here.gone here.leaving here.frames c.self.invariant none in
    omega (arith, subst (λ waiting. c.args.at + 1 < length (first_or_nothing waiting)) all within, c.from-at.ensures, ap (λ kept. length (first_or_nothing kept.frames)) c.change_first.ensures, first_same c.from-at.result (bit_xor (slice_index (first_or_nothing here.frames.frames) c.from-at.result) (c.args.mask / 256)) here.frames.frames)

pub returns : goal.returns
returns c =
    let here = c.self.inside in
    let none = rw (← c.self.view_is) at c.requires.still in
    rw (← c.self.view_is)
    (rw (← c.from-at.ensures)
    (queue_changed here.size here.handing here.gone here.leaving c.from-at.result c.args.mask (c.args.mask / 256) (c.args.mask % 256) here.frames c.change_first.new.self c.change_first-2.new.self
    (still_is here.size here.handing here.gone here.leaving here.frames c.self.invariant none) refl refl c.change_first.ensures c.change_first-2.ensures))
