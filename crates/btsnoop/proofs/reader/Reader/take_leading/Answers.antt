use Rattle.std.proofs.Common.{◌≡◌, ◌≤◌, ℕ, List, [], ◌++◌, length, take, None, refl, sym, ap, subst, ◌∙◌, arith}
use Rattle.std.proofs.lemmas.List.{length-take-le}
use Rattle.h4_framing.specs.Framing.{counted}
use Rattle.h4_framing.proofs.OctetLists.{IsOctets-take}
use Rattle.btsnoop.specs.declared.fields.Part.TheVariants as part
use Rattle.btsnoop.specs.declared.reader.SnoopTaken.TheVariants.{Header, Record}
use Rattle.btsnoop.specs.Fields.{told_length, IsUnfinished}
use Rattle.btsnoop.specs.Taking.{Progress, Takes}
use Rattle.btsnoop.proofs.FieldLemmas.{told_bound, nothing_unfinished}
use Rattle.btsnoop.proofs.LeadingLemmas.{told_some}
use Rattle.btsnoop.proofs.TakingLemmas.{progress, Full, leading_front, record_told, whole_header, whole_record}
use Rattle.btsnoop.proofs.reader.Reader.take_leading.Goals as goal

pub refill-requires : goal.refill-requires
refill-requires c =
    let told : c.told_length-length.result ≡ told_length c.self.inside.part c.args.piece.now = c.told_length-length.ensures in
    omega (arith, told, told_bound c.self.inside.part c.args.piece.now (sym c.in_default.ensures), c.self.invariant.0, c.if-piece-length.true)

pub invariant_of-self-in-Header : goal.invariant_of-self-in-Header
invariant_of-self-in-Header c =
    let empty : take c.self.inside.held c.self.inside.buffer.items ≡ [] = ap (λ (o : Progress). o.held) c.self.view_is ∙ c.requires.empty in
    (c.self.invariant.0, c.self.invariant.1, subst (IsUnfinished part.Body) (sym empty) (nothing_unfinished part.Body))

pub record_of-requires : goal.record_of-requires
record_of-requires c =
    let part = c.self.inside.part in
    let piece = c.args.piece.now in
    let n = c.told_length-length.result in
    let le : n ≤ length piece = omega (arith, c.if-piece-length.false) in
    let front = leading_front part piece n c.told_length-length.ensures le (sym c.in_default.ensures) in
    record_told part (take n piece) (length (take n piece)) c.in-Body.is front.1 (omega arith)

pub returns-in-Header : goal.returns-in-Header
returns-in-Header c =
    let in' = c.self.inside in
    let held = take in'.held in'.buffer.items in
    let piece = c.args.piece.now in
    let n = c.told_length-length.result in
    let after = c.saturating_add-self-inside.result in
    let sound : in'.fault ≡ None = ap (λ (o : Progress). o.fault) c.self.view_is ∙ c.requires.sound in
    let empty : held ≡ [] = ap (λ (o : Progress). o.held) c.self.view_is ∙ c.requires.empty in
    let told : n ≡ told_length in'.part piece = c.told_length-length.ensures in
    let le : n ≤ length piece = omega (arith, c.if-piece-length.false) in
    let front = leading_front in'.part piece n told le (sym c.in_default.ensures) in
    let full : Full in'.part held piece (take n piece) n = record {
      some = omega (arith, told, told_some in'.part piece);
      within = le;
      items = ap (λ (xs : List ℕ). xs ++ take n piece) (sym empty);
      octets = IsOctets-take n piece (λ i. omega (arith, c.type_inv.piece i));
      sound = front.0;
      told = front.1;
    } in
    let count = c.saturating_add-self-inside.ensures ∙ ap (counted in'.before) (sym (length-take-le n piece le)) in
    let step = whole_header in'.part in'.before after n held piece (take n piece) held in'.fault full c.in-Header.is sound count empty in
    ((refl, (λ w. tt), subst (λ (o : Progress). Takes o piece (Header n) (progress part.Body after held in'.fault)) c.self.view_is step), tt)

pub returns-in-Body : goal.returns-in-Body
returns-in-Body c =
    let in' = c.self.inside in
    let held = take in'.held in'.buffer.items in
    let piece = c.args.piece.now in
    let n = c.told_length-length.result in
    let after = c.saturating_add-self-inside.result in
    let sound : in'.fault ≡ None = ap (λ (o : Progress). o.fault) c.self.view_is ∙ c.requires.sound in
    let empty : held ≡ [] = ap (λ (o : Progress). o.held) c.self.view_is ∙ c.requires.empty in
    let told : n ≡ told_length in'.part piece = c.told_length-length.ensures in
    let le : n ≤ length piece = omega (arith, c.if-piece-length.false) in
    let front = leading_front in'.part piece n told le (sym c.in_default.ensures) in
    let full : Full in'.part held piece (take n piece) n = record {
      some = omega (arith, told, told_some in'.part piece);
      within = le;
      items = ap (λ (xs : List ℕ). xs ++ take n piece) (sym empty);
      octets = IsOctets-take n piece (λ i. omega (arith, c.type_inv.piece i));
      sound = front.0;
      told = front.1;
    } in
    let count = c.saturating_add-self-inside.ensures ∙ ap (counted in'.before) (sym (length-take-le n piece le)) in
    let step = whole_record in'.part in'.before after n held piece (take n piece) held in'.fault c.record_of.result full c.in-Body.is c.record_of.ensures sound count empty in
    ((refl, (λ w. tt), subst (λ (o : Progress). Takes o piece (Record c.record_of.result n) (progress in'.part after held in'.fault)) c.self.view_is step), tt)
