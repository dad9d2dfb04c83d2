use Rattle.std.proofs.Common.{subst, sym}
use Rattle.sdp_elements.specs.Elements.{PlainElement}
use Rattle.sdp_elements.specs.Spelling.{AreSpelledBy, Stands}
use Rattle.sdp_elements.proofs.ContractLaws.{left_behind, part_of}
use Rattle.sdp_elements.proofs.element.Children.next.Goals as goal

pub returns-in-Ok-clause-only : goal.returns-in-Ok-clause-only
returns-in-Ok-clause-only c = λ element front rest f e.
    let o = c.in-Ok.ensures.only element front rest f e in
    (o.0, left_behind c.args.self.now.left.now front rest c.in-Ok.used e o.1)

pub returns-in-Ok-clause-parts : goal.returns-in-Ok-clause-parts
returns-in-Ok-clause-parts c = λ first others s.
    let p = part_of first s.0 s.3 in
    let o = c.in-Ok.ensures.only p.element s.0 s.1 p.is_form s.2 in
    (subst (λ (element : PlainElement). Stands element first) (sym o.0) p.stands, subst (AreSpelledBy others) (sym (left_behind c.args.self.now.left.now s.0 s.1 c.in-Ok.used s.2 o.1)) s.4)

pub returns-in-Err-clause-only : goal.returns-in-Err-clause-only
returns-in-Err-clause-only c = λ element front rest f e. absurd (c.in-Err.ensures.only element front rest f e)

pub returns-in-Err-clause-parts : goal.returns-in-Err-clause-parts
returns-in-Err-clause-parts c = λ first others s.
    let p = part_of first s.0 s.3 in
    absurd (c.in-Err.ensures.only p.element s.0 s.1 p.is_form s.2)
