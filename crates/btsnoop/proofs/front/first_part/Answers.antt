use Rattle.std.proofs.Common.{◌≡◌, ◌≤◌, ◌+◌, length, take, None, sym, ap, subst, ◌∙◌, arith}
use Rattle.h4_framing.proofs.OctetLists.{IsOctets-take}
use Rattle.btsnoop.specs.declared.fields.Part.{Part}
use Rattle.btsnoop.specs.declared.fields.Part.TheVariants.{Header}
use Rattle.btsnoop.specs.Files.{IsRecord, record_octets}
use Rattle.btsnoop.specs.Fields.{field, fault_in, told_length}
use Rattle.btsnoop.proofs.FieldLemmas.{fault_place, told_bound, told_header}
use Rattle.btsnoop.proofs.Items.{header_whole, record_whole}
use Rattle.btsnoop.proofs.TakingLemmas.{leading_front, record_told}
use Rattle.btsnoop.proofs.front.first_part.Goals as goal

pub returns-in-Some : goal.returns-in-Some
returns-in-Some c =
    let wrong = sym c.fault_in.ensures ∙ c.in-Some.is in
    (wrong, fault_place c.args.part c.args.octets.now c.in-Some.refusal c.in-Some.place wrong)

pub returns-then-octets-length : goal.returns-then-octets-length
returns-then-octets-length c =
    let told = c.told_length-length.ensures in
    let sound = sym c.in_default.ensures in (
      record { are_octets = λ i. omega (arith, c.type_inv.octets i); sound = sound; short = omega (arith, told, c.if-octets-length.true) },
      told,
      omega (arith, told, told_bound c.args.part c.args.octets.now sound),
    )

pub record_of-requires : goal.record_of-requires
record_of-requires c =
    let part = c.args.part in
    let octets = c.args.octets.now in
    let n = c.told_length-length.result in
    let front = leading_front part octets n c.told_length-length.ensures (omega (arith, c.if-octets-length.false)) (sym c.in_default.ensures) in
    record_told part (take n octets) (length (take n octets)) c.in-Body.is front.1 (omega arith)

pub returns-in-Header : goal.returns-in-Header
returns-in-Header c =
    let octets = c.args.octets.now in
    let n = c.told_length-length.result in
    let size : n ≡ 16 = c.told_length-length.ensures ∙ ap (λ (p : Part). told_length p octets) c.in-Header.is ∙ told_header octets in
    let within : n ≤ length octets = omega (arith, c.if-octets-length.false) in
    let sound : fault_in Header octets ≡ None = ap (λ (p : Part). fault_in p octets) (sym c.in-Header.is) ∙ sym c.in_default.ensures in
    (c.in-Header.is, within, ap (λ k. take k octets) size ∙ sym (header_whole octets (λ i. omega (arith, c.type_inv.octets i)) (omega (arith, size, within)) sound))

pub returns-in-Body : goal.returns-in-Body
returns-in-Body c =
    let part = c.args.part in
    let octets = c.args.octets.now in
    let n = c.told_length-length.result in
    let within : n ≤ length octets = omega (arith, c.if-octets-length.false) in
    let front = leading_front part octets n c.told_length-length.ensures within (sym c.in_default.ensures) in
    let told : 24 + field 4 4 (take n octets) ≡ length (take n octets) = record_told part (take n octets) (length (take n octets)) c.in-Body.is front.1 (omega arith) in
    let whole = record_whole (take n octets) (IsOctets-take n octets (λ i. omega (arith, c.type_inv.octets i))) (sym told) (ap (λ (p : Part). fault_in p (take n octets)) (sym c.in-Body.is) ∙ front.0) in (
      c.in-Body.is,
      within,
      subst IsRecord (sym c.record_of.ensures) whole.0,
      sym (ap record_octets c.record_of.ensures ∙ whole.1),
    )
