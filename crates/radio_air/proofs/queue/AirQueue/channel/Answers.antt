use Rattle.std.proofs.Common.{◌≡◌, ◌<◌, ◌≤◌, length, sym, ap, ◌∙◌, arith, Some, None}
use Rattle.radio_model.specs.Radio.{first_or_nothing}
use Rattle.radio_model.specs.Radio.{first_channel}
use Rattle.radio_air.proofs.Queueing.{still_frames, no_channel, a_channel}
use Rattle.radio_air.proofs.queue.AirQueue.channel.Goals as goal

pub returns-then-first_len-lt4 : goal.returns-then-first_len-lt4
returns-then-first_len-lt4 c =
    let here = c.self.inside in
    let none = rw (← c.self.view_is) at c.requires in
    rw (← c.self.view_is)
    (no_channel here.frames.frames (omega (arith, c.first_len.ensures, c.if-first_len-lt4.true))
    ∙ sym (ap (λ frames. first_channel frames) (still_frames here.size here.handing here.gone here.leaving here.frames c.self.invariant none)))

pub returns : goal.returns
returns c =
    let here = c.self.inside in
    let none = rw (← c.self.view_is) at c.requires in
    rw (← c.self.view_is)
    (ap (λ n. Some n) c.first_number.ensures ∙ a_channel here.frames.frames (omega (arith, c.first_len.ensures, c.if-first_len-lt4.false))
    ∙ sym (ap (λ frames. first_channel frames) (still_frames here.size here.handing here.gone here.leaving here.frames c.self.invariant none)))
