use Rattle.std.proofs.Common.{◌≡◌, ◌∷◌, List, length, drop, min, take, ap, sym, subst, ◌∙◌, arith, refl}
use Rattle.std.proofs.lemmas.Bool.{eqb-false}
use Rattle.acl_fragments.specs.Pieces.{Piece}
use Rattle.acl_fragments.specs.Cuts.{cut}
use Rattle.host_link.proofs.Pieces.{first_left}
use Rattle.host_link.proofs.outbox.Outbox.first.Goals as goal

pub returns-clause-some : goal.returns-clause-some
returns-clause-some c =
    let here = c.self.inside in
    let xs = c.left_of-left.result.now in
    let rest = c.left_of-left.ensures ∙ ap (λ ys. drop here.gone (take here.end ys)) c.deref.ensures.value in
    let some = eqb-false (length xs) 0 (sym c.if-is_empty.ensures) in
    let first = first_left here.size c.min-size.result c.boundary_after.result xs (take c.min-size.result xs) c.self.invariant.some (omega (arith, some)) (c.min-size.ensures ∙ ap (λ n. min (length xs) n) c.from.ensures) refl in
    let same = ap (λ ys. cut here.size c.boundary_after.result ys) rest ∙ ap (λ b. cut here.size b (drop here.gone (take here.end here.buffer.items))) c.boundary_after.ensures in
    rw (← c.self.view_is)
    (subst (λ (pieces : List Piece). pieces ≡ record { boundary = c.boundary_after.result; octets = take c.min-size.result xs } ∷ drop 1 pieces) same first)
