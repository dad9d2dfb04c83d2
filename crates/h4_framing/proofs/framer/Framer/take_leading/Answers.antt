use Rattle.std.proofs.Common.{◌≡◌, ◌++◌, length, take, None, Some, refl, sym, ap, subst, ◌∙◌, arith}
use Rattle.std.proofs.lemmas.List.{take_all}
use Rattle.h4_framing.specs.declared.framer.Taken.TheVariants.{More, Refused}
use Rattle.h4_framing.specs.Stream.{IsUnfinished, GoesWrong}
use Rattle.h4_framing.specs.Framing.{Framing}
use Rattle.h4_framing.specs.Taking.{Takes}
use Rattle.h4_framing.proofs.TakingLemmas.{unfinished_bound, framing, leading_more, goes_refused}
use Rattle.h4_framing.proofs.framer.Framer.take_leading.Goals as goal

pub refill-requires : goal.refill-requires
refill-requires c =
    let bound = unfinished_bound c.self.inside.limit c.args.piece.now c.self.invariant.0 c.in-Partial.ensures in
    omega (arith, c.self.invariant.1)

pub invariant_of-self-in-Partial : goal.invariant_of-self-in-Partial
invariant_of-self-in-Partial c =
    let all : take (length c.args.piece.now) c.refill.new.buffer.items ≡ c.args.piece.now = ap (take (length c.args.piece.now)) c.refill.ensures.items ∙ take_all (length c.args.piece.now) c.args.piece.now (omega arith) in
    (c.self.invariant.0, omega (arith, c.self.invariant.1, c.refill.ensures.capacity), omega (arith, c.refill.new.buffer.ok.0, ap length c.refill.ensures.items), subst (IsUnfinished c.self.inside.limit) (sym all) c.in-Partial.ensures)

pub returns-in-Partial : goal.returns-in-Partial
returns-in-Partial c =
    let in' = c.self.inside in
    let kept = take (length c.args.piece.now) c.refill.new.buffer.items in
    let held = take in'.held in'.buffer.items in
    let all : kept ≡ c.args.piece.now = ap (take (length c.args.piece.now)) c.refill.ensures.items ∙ take_all (length c.args.piece.now) c.args.piece.now (omega arith) in
    let sound : in'.fault ≡ None = ap (λ (o : Framing). o.fault) c.self.view_is ∙ c.requires.sound in
    let step = leading_more in'.limit in'.before held c.args.piece.now kept in'.fault sound (ap (λ (o : Framing). o.held) c.self.view_is ∙ c.requires.empty) c.in-Partial.ensures all in
    ((refl, (λ w. tt), subst (λ (o : Framing). Takes o c.args.piece.now More (framing in'.limit in'.before kept in'.fault)) c.self.view_is step), tt)

pub returns-in-Refused : goal.returns-in-Refused
returns-in-Refused c =
    let in' = c.self.inside in
    let held = take in'.held in'.buffer.items in
    let r = c.in-Refused.refusal in
    let place = c.saturating_add-place.result in
    let sound : in'.fault ≡ None = ap (λ (o : Framing). o.fault) c.self.view_is ∙ c.requires.sound in
    let empty = ap (λ (o : Framing). o.held) c.self.view_is ∙ c.requires.empty in
    let wrong : GoesWrong in'.limit (held ++ c.args.piece.now) r c.in-Refused.place = subst (λ xs. GoesWrong in'.limit (xs ++ c.args.piece.now) r c.in-Refused.place) (sym empty) c.in-Refused.ensures in
    let step = goes_refused in'.limit in'.before place c.in-Refused.place held c.args.piece.now held in'.fault r sound wrong c.saturating_add-place.ensures refl in
    ((refl, (λ w. tt), subst (λ (o : Framing). Takes o c.args.piece.now (Refused r place) (framing in'.limit in'.before held (Some (r, place)))) c.self.view_is step), tt)
