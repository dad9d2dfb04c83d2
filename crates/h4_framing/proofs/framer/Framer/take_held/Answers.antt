use Rattle.std.proofs.Common.{◌≡◌, ℕ, List, [], ◌++◌, length, take, None, Some, refl, sym, ap, subst, ◌∙◌, arith}
use Rattle.bt_base.specs.Octets.{IsOctets}
use Rattle.h4_framing.specs.declared.framer.Taken.TheVariants.{Whole, Refused}
use Rattle.h4_framing.specs.declared.extent.Extent.TheVariants.{Known}
use Rattle.h4_framing.specs.Extents.{extent}
use Rattle.h4_framing.specs.Packets.{packet, spelling}
use Rattle.h4_framing.specs.Stream.{GoesWrong}
use Rattle.h4_framing.specs.Framing.{Framing, counted}
use Rattle.h4_framing.specs.Taking.{Takes}
use Rattle.h4_framing.proofs.OctetLists.{IsOctets-append, IsOctets-take}
use Rattle.h4_framing.proofs.ExtentLemmas.{known_above, unfinished_octets}
use Rattle.h4_framing.proofs.SpellingLemmas.{spelled_packet}
use Rattle.h4_framing.proofs.TakingLemmas.{framing, goes_refused, same_held, held_whole}
use Rattle.h4_framing.proofs.framer.Framer.take_held.Goals as goal

pub unit_of-requires : goal.unit_of-requires
unit_of-requires c =
    let known = known_above c.self.inside.limit 65535 c.gather.new.buffer.items (length c.gather.new.buffer.items) (omega arith) c.in-Whole.ensures.gathered.3 in
    ap (extent 65535) c.deref.ensures.value ∙ known ∙ ap (λ xs. Known (length xs)) (sym c.deref.ensures.value)

pub returns-in-Whole : goal.returns-in-Whole
returns-in-Whole c =
    let in' = c.self.inside in
    let held = take in'.held in'.buffer.items in
    let buffer = c.gather.new.buffer.items in
    let whole = c.in-Whole.ensures.gathered in
    let sound : in'.fault ≡ None = ap (λ (o : Framing). o.fault) c.self.view_is ∙ c.requires.sound in
    let is : buffer ≡ held ++ take c.in-Whole.used c.args.piece.now = whole.2 ∙ ap (λ xs. xs ++ take c.in-Whole.used c.args.piece.now) c.truncate.ensures.items in
    let spelled : spelling (packet c.unit_of.result) ≡ buffer = c.unit_of.ensures.spelling ∙ c.deref.ensures.value in
    let fits : IsOctets buffer = subst IsOctets (sym is) (IsOctets-append held (take c.in-Whole.used c.args.piece.now) (unfinished_octets in'.limit held c.self.invariant.3) (IsOctets-take c.in-Whole.used c.args.piece.now (λ i. omega (arith, c.type_inv.piece i)))) in
    let made = spelled_packet in'.limit (packet c.unit_of.result) buffer c.unit_of.ensures.number spelled fits whole.3 in
    let count = c.saturating_add-self-inside.ensures ∙ ap (counted in'.before) (c.len.ensures ∙ c.gather.new.buffer.ok.0) in
    let step = held_whole in'.limit in'.before c.saturating_add-self-inside.result c.in-Whole.used held c.args.piece.now buffer in'.fault c.unit_of.result sound made whole.0 whole.1 spelled is count in
    ((refl, (λ w. tt), subst (λ (o : Framing). Takes o c.args.piece.now (Whole c.unit_of.result c.in-Whole.used) (framing in'.limit c.saturating_add-self-inside.result [] in'.fault)) c.self.view_is step), tt)

pub returns-in-Refused : goal.returns-in-Refused
returns-in-Refused c =
    let in' = c.self.inside in
    let held = take in'.held in'.buffer.items in
    let kept = take in'.held c.gather.new.buffer.items in
    let r = c.in-Refused.refusal in
    let place = c.saturating_add-place.result in
    let gathered = c.in-Refused.ensures.gathered in
    let sound : in'.fault ≡ None = ap (λ (o : Framing). o.fault) c.self.view_is ∙ c.requires.sound in
    let wrong : GoesWrong in'.limit (held ++ c.args.piece.now) r c.in-Refused.place = subst (λ xs. GoesWrong in'.limit (xs ++ c.args.piece.now) r c.in-Refused.place) c.truncate.ensures.items gathered.2 in
    let front : take (length held) c.gather.new.buffer.items ≡ held = subst (λ (xs : List ℕ). take (length xs) c.gather.new.buffer.items ≡ xs) c.truncate.ensures.items gathered.0 in
    let step = goes_refused in'.limit in'.before place c.in-Refused.place held c.args.piece.now kept in'.fault r sound wrong c.saturating_add-place.ensures (same_held in'.held in'.buffer.items c.gather.new.buffer.items (omega (arith, c.self.invariant.2, in'.buffer.ok.0)) front) in
    ((refl, (λ w. tt), subst (λ (o : Framing). Takes o c.args.piece.now (Refused r place) (framing in'.limit in'.before kept (Some (r, place)))) c.self.view_is step), tt)
