use Rattle.std.proofs.Common.{ℕ, ◌<◌, min, length, sym, ap, ◌∙◌, arith}
use Rattle.std.proofs.lemmas.Bool.{eqb-false}
use Rattle.acl_fragments.proofs.Cutting.{next_piece}
use Rattle.acl_fragments.proofs.cutter.Cutter.next.Goals as goal

pub returns-clause-some : goal.returns-clause-some
returns-clause-some c =
    let here = c.self.inside in
    let octets = here.rest.now in
    let empty = eqb-false (length octets) 0 (sym c.if-is_empty.ensures) in
    let some : 0 < length octets = omega (arith, empty) in
    sym c.self.view_is
    ∙ next_piece here.length c.min-size.result here.boundary octets c.split_at.result.0.now c.split_at.result.1.now c.self.invariant some
    (c.min-size.ensures ∙ ap (λ (n : ℕ). min (length octets) n) c.from.ensures) c.split_at.ensures.front c.split_at.ensures.back
