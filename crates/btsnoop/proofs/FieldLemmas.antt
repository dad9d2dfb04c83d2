-- What is told of a file header or a record stays so, once it is told, whatever follows.
use Rattle.std.proofs.Common.{◌≡◌, ℕ, ◌+◌, ◌<◌, ◌≤◌, Bool, true, false, List, [], ◌++◌, length, drop, Option, None, Some, ◌⊎◌, refl, sym, ap, ◌∙◌, arith, inl, inr, length-append}
use Rattle.std.specs.Prelude.{if◌then◌else◌, nat_le}
use Rattle.std.proofs.lemmas.Bool.{cases_lt, cases_eq, le-ltb, lt-ltb, le-leb, lt-leb, eq-eqb, ne_eqb}
use Rattle.std.proofs.lemmas.List.{append-nil, drop-append-le, length-drop}
use Rattle.byteorder.specs.Endian.{big_number}
use Rattle.byteorder.specs.Numbers.{big_from-append}
use Rattle.h4_framing.proofs.OctetLists.{IsOctets-nil}
use Rattle.btsnoop.specs.declared.refusal.SnoopRefusal.{SnoopRefusal}
use Rattle.btsnoop.specs.declared.refusal.SnoopRefusal.TheVariants.{BadMagic, BadVersion, BadLink, BadLength}
use Rattle.btsnoop.specs.declared.fields.Part.{Part}
use Rattle.btsnoop.specs.declared.fields.Part.TheVariants.{Header, Body}
use Rattle.btsnoop.specs.Files.{identification, version, uart_datalink, longest_packet}
use Rattle.btsnoop.specs.Fields.{field, is_other, header_fault, has_bad_length, fault_in, told_length, IsUnfinished}

abbrev pub Fault : Type 0
Fault = SnoopRefusal × ℕ

-- how many octets tell all that is told
abbrev pub head : Part → ℕ
head Header = 16
head Body = 24

pub field_more : (place width : ℕ) (xs ys : List ℕ) → place + width ≤ length xs → field place width (xs ++ ys) ≡ field place width xs
unfolding field
field_more place width xs ys le = ap (big_number width) (drop-append-le place xs ys (omega arith)) ∙ big_from-append width (drop place xs) ys (omega (arith, length-drop place xs))

longer : (xs ys : List ℕ) (n : ℕ) → n ≤ length xs → n ≤ length (xs ++ ys)
longer xs ys n le = omega (arith, length-append xs ys)

other_more : (place width number : ℕ) (xs ys : List ℕ) → place + width ≤ length xs → is_other place width number (xs ++ ys) ≡ is_other place width number xs
unfolding is_other
other_more place width number xs ys le = rw (le-leb (place + width) (length (xs ++ ys)) (longer xs ys (place + width) le), le-leb (place + width) (length xs) le, field_more place width xs ys le) refl

other_short : (place width number : ℕ) (xs : List ℕ) → length xs < place + width → is_other place width number xs ≡ false
unfolding is_other
other_short place width number xs lt = rw (lt-leb (place + width) (length xs) lt) refl

-- a field that is whole and not another number has that number
pub not_other : (place width number : ℕ) (xs : List ℕ) → place + width ≤ length xs → is_other place width number xs ≡ false → field place width xs ≡ number
unfolding is_other
not_other place width number xs le e =
    elim (cases_eq (field place width xs) number) [
      | inl same ↦ same
      | inr differs ↦ absurd (let f = rw (le-leb (place + width) (length xs) le, ne_eqb (field place width xs) number differs) at e in cc)
    ]

pub is_not_other : (place width number : ℕ) (xs : List ℕ) → field place width xs ≡ number → is_other place width number xs ≡ false
unfolding is_other
is_not_other place width number xs e = elim (cases_lt (length xs) (place + width)) [
  | inl lt ↦ rw (lt-leb (place + width) (length xs) lt) refl
  | inr le ↦ rw (le-leb (place + width) (length xs) le, eq-eqb (field place width xs) number e) refl
]

-- ---- the file header

abbrev choice : Bool → Bool → Bool → Option Fault
choice a b c = if a then Some (BadMagic, 0) else if b then Some (BadVersion, 8) else if c then Some (BadLink, 12) else None

header_is : (xs : List ℕ) → header_fault xs ≡ choice (is_other 0 8 identification xs) (is_other 8 4 version xs) (is_other 12 4 uart_datalink xs)
unfolding header_fault
header_is xs = refl

none_chosen : (a b c : Bool) → choice a b c ≡ None → (a ≡ false) × (b ≡ false) × (c ≡ false)
none_chosen true b c e = absurd cc
none_chosen false true c e = absurd cc
none_chosen false false true e = absurd cc
none_chosen false false false e = (refl, refl, refl)

-- the fields of a file header in which nothing is wrong
pub sound_header : (xs : List ℕ) → 16 ≤ length xs → header_fault xs ≡ None → (field 0 8 xs ≡ identification) × (field 8 4 xs ≡ version) × (field 12 4 xs ≡ uart_datalink)
sound_header xs le e =
    let none = none_chosen _ _ _ (sym (header_is xs) ∙ e) in
    (not_other 0 8 identification xs (omega arith) none.0, not_other 8 4 version xs (omega arith) none.1, not_other 12 4 uart_datalink xs (omega arith) none.2)

pub header_sound : (xs : List ℕ) → field 0 8 xs ≡ identification → field 8 4 xs ≡ version → field 12 4 xs ≡ uart_datalink → header_fault xs ≡ None
header_sound xs a b c = header_is xs ∙ (rw (is_not_other 0 8 identification xs a, is_not_other 8 4 version xs b, is_not_other 12 4 uart_datalink xs c) refl)

header_more : (xs ys : List ℕ) → 16 ≤ length xs → header_fault (xs ++ ys) ≡ header_fault xs
header_more xs ys le =
    header_is (xs ++ ys)
    ∙ (rw (other_more 0 8 identification xs ys (omega arith), other_more 8 4 version xs ys (omega arith), other_more 12 4 uart_datalink xs ys (omega arith)) (sym (header_is xs)))

first_stays : (a b c : Bool) (f : Fault) → choice a false false ≡ Some f → choice a b c ≡ Some f
first_stays true b c f e = e
first_stays false b c f e = absurd cc

second_stays : (a b c : Bool) (f : Fault) → choice a b false ≡ Some f → choice a b c ≡ Some f
second_stays true b c f e = e
second_stays false true c f e = e
second_stays false false c f e = absurd cc

header_stays : (xs ys : List ℕ) (f : Fault) → header_fault xs ≡ Some f → header_fault (xs ++ ys) ≡ Some f
header_stays xs ys f e =
    let is = sym (header_is xs) ∙ e in
    elim (cases_lt (length xs) 8) [
      | inl lt ↦ absurd (let g = rw (other_short 0 8 identification xs lt, other_short 8 4 version xs (omega arith), other_short 12 4 uart_datalink xs (omega arith)) at is in cc)
      | inr le ↦ elim (cases_lt (length xs) 12) [
        | inl lt ↦
            let g : choice (is_other 0 8 identification xs) false false ≡ Some f = rw (other_short 8 4 version xs lt, other_short 12 4 uart_datalink xs (omega arith)) at is in
            header_is (xs ++ ys) ∙ (rw (other_more 0 8 identification xs ys le) (first_stays (is_other 0 8 identification xs) _ _ f g))
        | inr le' ↦ elim (cases_lt (length xs) 16) [
          | inl lt ↦
              let g : choice (is_other 0 8 identification xs) (is_other 8 4 version xs) false ≡ Some f = rw (other_short 12 4 uart_datalink xs lt) at is in
              header_is (xs ++ ys) ∙ (rw (other_more 0 8 identification xs ys le, other_more 8 4 version xs ys le') (second_stays (is_other 0 8 identification xs) (is_other 8 4 version xs) _ f g))
          | inr all ↦ header_more xs ys all ∙ e
        ]
      ]
    ]

-- ---- a record

bad_more : (xs ys : List ℕ) → 8 ≤ length xs → has_bad_length (xs ++ ys) ≡ has_bad_length xs
unfolding has_bad_length
bad_more xs ys le = rw (le-leb 8 (length (xs ++ ys)) (longer xs ys 8 le), le-leb 8 (length xs) le, field_more 4 4 xs ys le, field_more 0 4 xs ys (omega arith)) refl

bad_short : (xs : List ℕ) → length xs < 8 → has_bad_length xs ≡ false
unfolding has_bad_length
bad_short xs lt = rw (lt-leb 8 (length xs) lt) refl

-- the lengths of a record in which nothing is wrong
lengths : (xs : List ℕ) → 8 ≤ length xs → has_bad_length xs ≡ false → (field 4 4 xs ≤ longest_packet) × (field 4 4 xs ≤ field 0 4 xs)
unfolding has_bad_length
lengths xs le e =
    let some : nat_le 8 (length xs) ≡ true = le-leb 8 (length xs) le in
    elim (cases_lt longest_packet (field 4 4 xs)) [
      | inl above ↦ absurd (let f = rw (some, lt-ltb longest_packet (field 4 4 xs) above) at e in cc)
      | inr within ↦ elim (cases_lt (field 0 4 xs) (field 4 4 xs)) [
        | inl more ↦ absurd (let f = rw (some, le-ltb longest_packet (field 4 4 xs) within, lt-ltb (field 0 4 xs) (field 4 4 xs) more) at e in cc)
        | inr no_more ↦ (within, no_more)
      ]
    ]

good_lengths : (xs : List ℕ) → 8 ≤ length xs → field 4 4 xs ≤ longest_packet → field 4 4 xs ≤ field 0 4 xs → has_bad_length xs ≡ false
unfolding has_bad_length
good_lengths xs le within no_more = rw (le-leb 8 (length xs) le, le-ltb longest_packet (field 4 4 xs) within, le-ltb (field 0 4 xs) (field 4 4 xs) no_more) refl

abbrev chosen : Bool → Option Fault
chosen b = if b then Some (BadLength, 0) else None

body_is : (xs : List ℕ) → fault_in Body xs ≡ chosen (has_bad_length xs)
unfolding fault_in
body_is xs = refl

pub head_is : (xs : List ℕ) → fault_in Header xs ≡ header_fault xs
unfolding fault_in
head_is xs = refl

not_bad : (b : Bool) → chosen b ≡ None → b ≡ false
not_bad true e = absurd cc
not_bad false e = refl

pub sound_body : (xs : List ℕ) → 8 ≤ length xs → fault_in Body xs ≡ None → (field 4 4 xs ≤ longest_packet) × (field 4 4 xs ≤ field 0 4 xs)
sound_body xs le e = lengths xs le (not_bad (has_bad_length xs) (sym (body_is xs) ∙ e))

pub body_sound : (xs : List ℕ) → 8 ≤ length xs → field 4 4 xs ≤ longest_packet → field 4 4 xs ≤ field 0 4 xs → fault_in Body xs ≡ None
body_sound xs le within no_more = body_is xs ∙ ap chosen (good_lengths xs le within no_more)

-- a fault stays
pub fault_stays : (part : Part) (xs ys : List ℕ) (f : Fault) → fault_in part xs ≡ Some f → fault_in part (xs ++ ys) ≡ Some f
fault_stays Header xs ys f e = head_is (xs ++ ys) ∙ header_stays xs ys f (sym (head_is xs) ∙ e)
fault_stays Body xs ys f e =
    let is = sym (body_is xs) ∙ e in
    elim (cases_lt (length xs) 8) [
      | inl lt ↦ absurd (let g = rw (bad_short xs lt) at is in cc)
      | inr le ↦ body_is (xs ++ ys) ∙ ap chosen (bad_more xs ys le) ∙ is
    ]

-- the place of a field is in the file header
some_place : (a b : Fault) → Some a ≡ Some b → b.1 ≡ a.1
some_place a b e = let is : a ≡ b = cc in ap (λ (f : Fault). f.1) (sym is)

choice_place : (a b c : Bool) (r : SnoopRefusal) (n : ℕ) → choice a b c ≡ Some (r, n) → n < 16
choice_place true b c r n e = omega (arith, some_place (BadMagic, 0) (r, n) e)
choice_place false true c r n e = omega (arith, some_place (BadVersion, 8) (r, n) e)
choice_place false false true r n e = omega (arith, some_place (BadLink, 12) (r, n) e)
choice_place false false false r n e = absurd cc

chosen_place : (b : Bool) (r : SnoopRefusal) (n : ℕ) → chosen b ≡ Some (r, n) → n < 16
chosen_place true r n e = omega (arith, some_place (BadLength, 0) (r, n) e)
chosen_place false r n e = absurd cc

pub fault_place : (part : Part) (xs : List ℕ) (r : SnoopRefusal) (n : ℕ) → fault_in part xs ≡ Some (r, n) → n < 16
fault_place Header xs r n e = choice_place _ _ _ r n (sym (header_is xs) ∙ sym (head_is xs) ∙ e)
fault_place Body xs r n e = chosen_place _ r n (sym (body_is xs) ∙ e)

-- ---- what is told

pub told_header : (xs : List ℕ) → told_length Header xs ≡ 16
unfolding told_length
told_header xs = refl

told_head : (xs : List ℕ) → length xs < 24 → told_length Body xs ≡ 24
unfolding told_length
told_head xs lt = rw (lt-leb 24 (length xs) lt) refl

pub told_body : (xs : List ℕ) → 24 ≤ length xs → told_length Body xs ≡ 24 + field 4 4 xs
unfolding told_length
told_body xs le = rw (le-leb 24 (length xs) le) refl

pub told_short : (part : Part) (xs : List ℕ) → length xs < head part → told_length part xs ≡ head part
told_short Header xs lt = told_header xs
told_short Body xs lt = told_head xs lt

pub told_least : (part : Part) (xs : List ℕ) → head part ≤ told_length part xs
told_least Header xs = omega (arith, told_header xs)
told_least Body xs = elim (cases_lt (length xs) 24) [ inl lt ↦ omega (arith, told_head xs lt) | inr le ↦ omega (arith, told_body xs le) ]

-- a reader has room for each record
pub told_bound : (part : Part) (xs : List ℕ) → fault_in part xs ≡ None → told_length part xs ≤ 65564
told_bound Header xs e = omega (arith, told_header xs)
told_bound Body xs e = elim (cases_lt (length xs) 24) [ inl lt ↦ omega (arith, told_head xs lt) | inr le ↦ omega (arith, told_body xs le, (sound_body xs (omega arith) e).0) ]

-- all is told once the head is whole
pub fault_settled : (part : Part) (xs ys : List ℕ) → head part ≤ length xs → fault_in part (xs ++ ys) ≡ fault_in part xs
fault_settled Header xs ys le = head_is (xs ++ ys) ∙ header_more xs ys le ∙ sym (head_is xs)
fault_settled Body xs ys le = body_is (xs ++ ys) ∙ ap chosen (bad_more xs ys (omega arith)) ∙ sym (body_is xs)

pub told_settled : (part : Part) (xs ys : List ℕ) → head part ≤ length xs → told_length part (xs ++ ys) ≡ told_length part xs
told_settled Header xs ys le = told_header (xs ++ ys) ∙ sym (told_header xs)
told_settled Body xs ys le = told_body (xs ++ ys) (longer xs ys 24 le) ∙ ap (λ (n : ℕ). 24 + n) (field_more 4 4 xs ys (omega arith)) ∙ sym (told_body xs le)

-- nothing new is told of octets whose head is whole, or to which nothing is added
abbrev pub Settled : Part → List ℕ → List ℕ → Type 0
Settled part xs ys = (head part ≤ length xs) ⊎ (ys ≡ [])

pub fault_kept : (part : Part) (xs ys : List ℕ) → Settled part xs ys → fault_in part (xs ++ ys) ≡ fault_in part xs
fault_kept part xs ys (inl le) = fault_settled part xs ys le
fault_kept part xs ys (inr none) = ap (λ (t : List ℕ). fault_in part (xs ++ t)) none ∙ ap (fault_in part) (append-nil xs)

pub told_kept : (part : Part) (xs ys : List ℕ) → Settled part xs ys → told_length part (xs ++ ys) ≡ told_length part xs
told_kept part xs ys (inl le) = told_settled part xs ys le
told_kept part xs ys (inr none) = ap (λ (t : List ℕ). told_length part (xs ++ t)) none ∙ ap (told_length part) (append-nil xs)

-- nothing is told of no octets
pub nothing_unfinished : (part : Part) → IsUnfinished part []
nothing_unfinished Header = record { are_octets = IsOctets-nil; sound = head_is [] ∙ header_is [] ∙ (rw (other_short 0 8 identification [] (omega arith), other_short 8 4 version [] (omega arith), other_short 12 4 uart_datalink [] (omega arith)) refl); short = omega (arith, told_header []) }
nothing_unfinished Body = record { are_octets = IsOctets-nil; sound = body_is [] ∙ ap chosen (bad_short [] (omega arith)); short = omega (arith, told_head [] (omega arith)) }
