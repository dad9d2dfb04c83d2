use Rattle.std.proofs.Common.{◌==◌, length, drop, take, ap, ◌∙◌}
use Rattle.host_link.specs.Waiting.{boundary_after}
use Rattle.host_link.proofs.Pieces.{none_left}
use Rattle.host_link.proofs.outbox.Outbox.is_over.Goals as goal

pub returns : goal.returns
returns c =
    let here = c.self.inside in
    let rest = c.left_of-left.ensures ∙ ap (λ xs. drop here.gone (take here.end xs)) c.deref.ensures.value in
    rw (← c.self.view_is) (c.is_empty.ensures ∙ ap (λ xs. length xs == 0) rest ∙ none_left here.size (boundary_after here.gone) (drop here.gone (take here.end here.buffer.items)))
