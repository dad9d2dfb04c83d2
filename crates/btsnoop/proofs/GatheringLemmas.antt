-- A file header or a record in a buffer, to which more octets are added.
use Rattle.std.proofs.Common.{◌≡◌, ℕ, ◌+◌, ◌-◌, ◌<◌, ◌≤◌, List, [], ◌++◌, length, take, drop, min, None, refl, sym, ap, ◌∙◌, append_assoc, length-append, arith, inl, inr}
use Rattle.std.proofs.lemmas.List.{append-nil, length-take, length-drop, take_all, take_at, drop_all, take-append-drop}
use Rattle.std.proofs.lemmas.Bool.{cases_lt, cases_eq}
use Rattle.std.proofs.Math.Seq.{take-add}
use Rattle.bt_base.specs.Octets.{IsOctets}
use Rattle.h4_framing.proofs.OctetLists.{IsOctets-append}
use Rattle.btsnoop.specs.declared.fields.Part.{Part}
use Rattle.btsnoop.specs.Fields.{fault_in, told_length, IsUnfinished}
use Rattle.btsnoop.proofs.FieldLemmas.{head, Settled, fault_kept, told_kept, told_settled, told_short, told_least}

parts : (u : ℕ) (held piece : List ℕ) → (held ++ take u piece) ++ drop u piece ≡ held ++ piece
parts u held piece = append_assoc held (take u piece) (drop u piece) ∙ ap (λ (xs : List ℕ). held ++ xs) (take-append-drop u piece)

-- the buffer `front` holds what was held and u octets of the piece: as many as were told to be wanted, or all
pub record Filled (part : Part) (held piece front : List ℕ) (u : ℕ) : Type 0 where
  pub unfinished : IsUnfinished part held
  pub count : u ≡ min (told_length part held - length held) (length piece)
  pub items : front ≡ held ++ take u piece

size : (part : Part) (held piece front : List ℕ) (u : ℕ) → Filled part held piece front u → length front ≡ length held + u
size part held piece front u f = omega (arith, ap length f.items, length-append held (take u piece), length-take u piece, f.count)

-- the head is whole then, or all of the piece is used
pub settled : (part : Part) (held piece front : List ℕ) (u : ℕ) → Filled part held piece front u → Settled part front (drop u piece)
settled part held piece front u f =
    let long = size part held piece front u f in
    elim (cases_lt (length front) (head part)) [
      | inl lt ↦ inr (let told = told_short part held (omega arith) in drop_all u piece (omega (arith, f.count)))
      | inr le ↦ inl le
    ]

whole_of : (part : Part) (held piece front : List ℕ) (u : ℕ) → Filled part held piece front u → held ++ piece ≡ front ++ drop u piece
whole_of part held piece front u f = sym (parts u held piece) ∙ ap (λ (xs : List ℕ). xs ++ drop u piece) (sym f.items)

pub front_fault : (part : Part) (held piece front : List ℕ) (u : ℕ) → Filled part held piece front u → fault_in part (held ++ piece) ≡ fault_in part front
front_fault part held piece front u f = ap (fault_in part) (whole_of part held piece front u f) ∙ fault_kept part front (drop u piece) (settled part held piece front u f)

front_told : (part : Part) (held piece front : List ℕ) (u : ℕ) → Filled part held piece front u → told_length part (held ++ piece) ≡ told_length part front
front_told part held piece front u f = ap (told_length part) (whole_of part held piece front u f) ∙ told_kept part front (drop u piece) (settled part held piece front u f)

-- no more was added than the file header or the record has
pub front_within : (part : Part) (held piece front : List ℕ) (u : ℕ) → Filled part held piece front u → length front ≤ told_length part front
front_within part held piece front u f =
    let long = size part held piece front u f in
    elim (cases_lt (length held) (head part)) [
      | inl lt ↦ omega (arith, told_short part held lt, told_least part front, f.count, f.unfinished.short)
      | inr le ↦
          let same : told_length part front ≡ told_length part held = ap (told_length part) f.items ∙ told_settled part held (take u piece) le in
          omega (arith, f.count, f.unfinished.short)
    ]

-- a wrong field leaves in the buffer what was held
pub kept_front : (part : Part) (held piece front : List ℕ) (u : ℕ) → Filled part held piece front u → (take (length held) front ≡ held) × (length held ≤ length front)
kept_front part held piece front u f = (ap (take (length held)) f.items ∙ take_at held (take u piece) (length held) refl, omega (arith, size part held piece front u f))

-- the whole piece was added, and it is not enough
pub more_gathered : (part : Part) (held piece front buffer : List ℕ) (u r n : ℕ) → Filled part held piece front u → IsOctets piece → fault_in part front ≡ None → n ≡ told_length part front
    → r ≡ min (n - length front) (length (drop u piece)) → buffer ≡ front ++ take r (drop u piece) → length buffer < n → (buffer ≡ held ++ piece) × IsUnfinished part (held ++ piece)
more_gathered part held piece front buffer u r n f fits sound told count items short =
    let all : length (drop u piece) ≤ r = omega (arith, ap length items, length-append front (take r (drop u piece)), length-take r (drop u piece)) in
    let is : buffer ≡ held ++ piece = items ∙ ap (λ (xs : List ℕ). front ++ xs) (take_all r (drop u piece) all) ∙ sym (whole_of part held piece front u f) in (
      is,
      record {
        are_octets = IsOctets-append held piece f.unfinished.are_octets fits;
        sound = front_fault part held piece front u f ∙ sound;
        short = omega (arith, front_told part held piece front u f, ap length is);
      },
    )

take_nothing : (r : ℕ) → take {A = ℕ} r [] ≡ []
take_nothing r = take_all r [] (omega arith)

append_nothing : (held piece : List ℕ) → held ++ take 0 piece ≡ held
append_nothing held piece = append-nil held

some : (u r : ℕ) → (u ≡ 0 → r ≡ 0 → ⊥) → 0 < u + r
some u r more = elim (cases_eq u 0) [ inl a ↦ elim (cases_eq r 0) [ inl b ↦ absurd (more a b) | inr many ↦ omega arith ] | inr many ↦ omega arith ]

-- the file header or the record is whole
pub whole_gathered : (part : Part) (held piece front buffer : List ℕ) (u r n : ℕ) → Filled part held piece front u → fault_in part front ≡ None → n ≡ told_length part front
    → r ≡ min (n - length front) (length (drop u piece)) → buffer ≡ front ++ take r (drop u piece) → n ≤ length buffer
    → (0 < u + r) × (u + r ≤ length piece) × (buffer ≡ held ++ take (u + r) piece) × (fault_in part buffer ≡ None) × (told_length part buffer ≡ length buffer)
whole_gathered part held piece front buffer u r n f sound told count items long =
    let front-size = size part held piece front u f in
    let within = front_within part held piece front u f in
    let buffer-size : length buffer ≡ length front + r = omega (arith, ap length items, length-append front (take r (drop u piece)), length-take r (drop u piece)) in
    let same : Settled part front (take r (drop u piece)) = elim (settled part held piece front u f) [
      | inl le ↦ inl le
      | inr none ↦ inr (ap (take r) none ∙ take_nothing r)
    ] in
    let more : u ≡ 0 → r ≡ 0 → ⊥ = λ a b.
    let still : told_length part front ≡ told_length part held = ap (told_length part) (f.items ∙ ap (λ (k : ℕ). held ++ take k piece) a ∙ append_nothing held piece) in
    omega (arith, f.unfinished.short) in
    let is : buffer ≡ held ++ take (u + r) piece =
    items ∙ ap (λ (xs : List ℕ). xs ++ take r (drop u piece)) f.items ∙ append_assoc held (take u piece) (take r (drop u piece)) ∙ ap (λ (xs : List ℕ). held ++ xs) (sym (take-add u r piece)) in
    let sound' : fault_in part buffer ≡ None = ap (fault_in part) items ∙ fault_kept part front (take r (drop u piece)) same ∙ sound in
    let told' : told_length part buffer ≡ n = ap (told_length part) items ∙ told_kept part front (take r (drop u piece)) same ∙ sym told in
    (some u r more, omega (arith, length-drop u piece, f.count), is, sound', omega (arith, told', count))
