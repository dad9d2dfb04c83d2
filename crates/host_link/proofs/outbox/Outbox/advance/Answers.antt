use Rattle.std.proofs.Common.{length, drop, take, min, ap, ◌∙◌}
use Rattle.host_link.specs.Waiting.{boundary_after}
use Rattle.host_link.proofs.Pieces.{left_behind, no_piece}
use Rattle.host_link.proofs.outbox.Outbox.advance.Goals as goal

pub returns : goal.returns
returns c =
    let here = c.self.inside in
    let some = rw (← c.self.view_is) at c.requires in
    let rest = c.left_of-left.ensures ∙ ap (λ ys. drop here.gone (take here.end ys)) c.deref.ensures.value in
    rw (← c.self.view_is)
    (left_behind here.size here.gone c.min-size.result (take here.end here.buffer.items) c.self.invariant.some (no_piece here.size (boundary_after here.gone) (drop here.gone (take here.end here.buffer.items)) some)
    (c.min-size.ensures ∙ ap (λ n. min (length c.left_of-left.result.now) n) c.from.ensures ∙ ap (λ ys. min (length ys) here.size) rest))
