use Rattle.std.proofs.Common.{◌≡◌, ◌+◌, ℕ, List, [], ◌++◌, length, take, None, refl, sym, ap, subst, ◌∙◌, arith}
use Rattle.bt_base.specs.Octets.{IsOctets}
use Rattle.h4_framing.specs.Framing.{counted}
use Rattle.h4_framing.proofs.OctetLists.{IsOctets-append, IsOctets-take}
use Rattle.btsnoop.specs.declared.fields.Part.TheVariants as part
use Rattle.btsnoop.specs.declared.reader.SnoopTaken.TheVariants.{Header, Record}
use Rattle.btsnoop.specs.Fields.{field, record_at}
use Rattle.btsnoop.specs.Files.{plain_record}
use Rattle.btsnoop.specs.Taking.{Progress, Takes}
use Rattle.btsnoop.proofs.FieldLemmas.{nothing_unfinished}
use Rattle.btsnoop.proofs.TakingLemmas.{progress, Full, record_told, whole_header, whole_record}
use Rattle.btsnoop.proofs.reader.Reader.take_held.Goals as goal

pub invariant_of-self : goal.invariant_of-self
invariant_of-self c = (omega (arith, c.self.invariant.0, c.truncate.ensures.capacity, c.gather.ensures.capacity), omega arith, nothing_unfinished part.Body)

pub invariant_of-self-in-Body : goal.invariant_of-self-in-Body
invariant_of-self-in-Body c = (omega (arith, c.self.invariant.0, c.truncate.ensures.capacity, c.gather.ensures.capacity), omega arith, nothing_unfinished c.self.inside.part)

pub record_of-requires : goal.record_of-requires
record_of-requires c =
    let told = record_told c.self.inside.part c.gather.new.buffer.items (length c.gather.new.buffer.items) c.in-Body.is c.in-Whole.ensures.gathered.4 (omega arith) in
    subst (λ (xs : List ℕ). 24 + field 4 4 xs ≡ length xs) (sym c.deref.ensures.value) told

pub returns-in-Header : goal.returns-in-Header
returns-in-Header c =
    let in' = c.self.inside in
    let piece = c.args.piece.now in
    let n = c.in-Whole.used in
    let held = take in'.held in'.buffer.items in
    let buffer = c.gather.new.buffer.items in
    let whole = c.in-Whole.ensures.gathered in
    let after = c.saturating_add-self-inside.result in
    let sound : in'.fault ≡ None = ap (λ (o : Progress). o.fault) c.self.view_is ∙ c.requires.sound in
    let is : buffer ≡ held ++ take n piece = whole.2 ∙ ap (λ xs. xs ++ take n piece) c.truncate.ensures.items in
    let fits : IsOctets buffer = subst IsOctets (sym is) (IsOctets-append held (take n piece) c.self.invariant.2.are_octets (IsOctets-take n piece (λ i. omega (arith, c.type_inv.piece i)))) in
    let count = c.saturating_add-self-inside.ensures ∙ ap (counted in'.before) (c.len.ensures ∙ c.gather.new.buffer.ok.0) in
    let full : Full in'.part held piece buffer n = record { some = whole.0; within = whole.1; items = is; octets = fits; sound = whole.3; told = whole.4 } in
    let step = whole_header in'.part in'.before after n held piece buffer [] in'.fault full c.in-Header.is sound count refl in
    ((refl, (λ w. tt), subst (λ (o : Progress). Takes o piece (Header n) (progress part.Body after [] in'.fault)) c.self.view_is step), tt)

pub returns-in-Body : goal.returns-in-Body
returns-in-Body c =
    let in' = c.self.inside in
    let piece = c.args.piece.now in
    let n = c.in-Whole.used in
    let held = take in'.held in'.buffer.items in
    let buffer = c.gather.new.buffer.items in
    let whole = c.in-Whole.ensures.gathered in
    let after = c.saturating_add-self-inside.result in
    let sound : in'.fault ≡ None = ap (λ (o : Progress). o.fault) c.self.view_is ∙ c.requires.sound in
    let is : buffer ≡ held ++ take n piece = whole.2 ∙ ap (λ xs. xs ++ take n piece) c.truncate.ensures.items in
    let fits : IsOctets buffer = subst IsOctets (sym is) (IsOctets-append held (take n piece) c.self.invariant.2.are_octets (IsOctets-take n piece (λ i. omega (arith, c.type_inv.piece i)))) in
    let count = c.saturating_add-self-inside.ensures ∙ ap (counted in'.before) (c.len.ensures ∙ c.gather.new.buffer.ok.0) in
    let full : Full in'.part held piece buffer n = record { some = whole.0; within = whole.1; items = is; octets = fits; sound = whole.3; told = whole.4 } in
    let made = subst (λ (xs : List ℕ). plain_record c.record_of.result ≡ record_at xs) c.deref.ensures.value c.record_of.ensures in
    let step = whole_record in'.part in'.before after n held piece buffer [] in'.fault c.record_of.result full c.in-Body.is made sound count refl in
    ((refl, (λ w. tt), subst (λ (o : Progress). Takes o piece (Record c.record_of.result n) (progress in'.part after [] in'.fault)) c.self.view_is step), tt)
