use Rattle.std.proofs.Common.{length, sym, ap, ◌∙◌}
use Rattle.radio_model.specs.Radio.{first_or_nothing}
use Rattle.radio_air.proofs.Queueing.{still_frames}
use Rattle.radio_air.proofs.queue.AirQueue.first_len.Goals as goal

pub returns : goal.returns
returns c =
    let here = c.self.inside in
    let none = rw (← c.self.view_is) at c.requires in
    rw (← c.self.view_is) (c.first_len.ensures ∙ sym (ap (λ frames. length (first_or_nothing frames)) (still_frames here.size here.handing here.gone here.leaving here.frames c.self.invariant none)))
