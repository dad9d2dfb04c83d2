use Rattle.std.proofs.Common.{◌≡◌, ◌<◌, true, subst, sym, ◌∙◌, arith}
use Rattle.sdp_elements.specs.Reading.{IsWithin, is_holder}
use Rattle.sdp_elements.proofs.ReadingLaws.{is_within}
use Rattle.sdp_elements.proofs.reading.behind_header.Goals as goal
use Rattle.sdp_elements.proofs.reading.behind_header.Goals.{else-is_holder-via-then-is_holder+else-levels-eq0, else-is_holder-via-else-is_holder}

pub returns-clause-within : goal.returns-clause-within
returns-clause-within c =
    let level : is_holder c.args.kind ≡ true → 0 < c.args.levels = elim c.else-is_holder.branch [
      | else-is_holder-via-then-is_holder+else-levels-eq0 w ↦ λ holds. omega arith
      | else-is_holder-via-else-is_holder w ↦ λ holds. absurd (let e = sym w.if-is_holder.false ∙ c.is_holder.ensures ∙ holds in cc)
    ] in
    subst (IsWithin c.args.levels) (sym c.element_in.ensures) (is_within c.args.kind c.args.levels c.in_ok-content.content.now level)
