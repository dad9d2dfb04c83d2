-- How many UTF-16 units a name in UTF-8 has, as its octets count them.
use Rattle.std.proofs.Common.{◌≡◌, ◌∙◌, ◌<◌, ◌≤◌, inl, inr, ℕ, ◌+◌, ◌-◌, ◌/◌, ◌%◌, ◌||◌, ◌&&◌, cond, nat_lt, nat_le, Bool, true, false, List, [], ◌∷◌, ◌++◌, length, flat_map, refl, sym, ap, arith, tests, length-append}
use Rattle.std.proofs.lemmas.Bool.{cases_lt}
use Rattle.std.proofs.lemmas.List.Sums.{sum_by-append}
use Rattle.std.proofs.lemmas.Str.{encodes-chars, scalars-chars}
use Rattle.std.specs.Char.Escape.{encode_utf16}
use Rattle.std.specs.Str.{chars, IsUtf8}
use lib.Utf8.{scalar, scalars, scalar_cases, encodes, encode, next}
use Rattle.shelf_model.specs.obex_session.specs.PutPackets.{units_in}
use Rattle.radio_world.specs.push_script.specs.Names.{begins_character, utf16_length}

-- an octet that begins a character of one to three octets counts once, one that begins four twice, and any other not at all
abbrev Counts : ℕ → Bool → Bool → Type 0
Counts octet begins four = (begins_character octet ≡ begins) × (nat_le 0xF0 octet ≡ four)

low : (c : ℕ) → c < 128 → Counts c true false
low c below = let a : nat_lt c 0x80 ≡ true = grind (arith, tests, below) in (ap (λ (b : Bool). b || nat_le 0xC0 c) a, grind (arith, tests, below))

begins : (octet : ℕ) → 0xC0 ≤ octet → octet < 0xF0 → Counts octet true false
begins octet above below =
    let a : nat_lt octet 0x80 ≡ false = grind (arith, tests, above) in
    let b : nat_le 0xC0 octet ≡ true = grind (arith, tests, above) in
    (ap (λ (t : Bool). t || nat_le 0xC0 octet) a ∙ b, grind (arith, tests, below))

begins_four : (octet : ℕ) → 0xF0 ≤ octet → Counts octet true true
begins_four octet above =
    let a : nat_lt octet 0x80 ≡ false = grind (arith, tests, above) in
    let b : nat_le 0xC0 octet ≡ true = grind (arith, tests, above) in
    (ap (λ (t : Bool). t || nat_le 0xC0 octet) a ∙ b, grind (arith, tests, above))

behind : (bits : ℕ) → Counts (next bits) false false
behind bits =
    let octet = next bits in
    let lower : 128 ≤ octet = omega arith in
    let upper : octet < 192 = omega arith in
    let a : nat_lt octet 0x80 ≡ false = grind (arith, tests, lower) in
    let b : nat_le 0xC0 octet ≡ false = grind (arith, tests, upper) in
    (ap (λ (t : Bool). t || nat_le 0xC0 octet) a ∙ b, grind (arith, tests, upper))

abbrev one_or_none : Bool → ℕ
one_or_none b = cond b 1 0

counted : (x : ℕ) (xs : List ℕ) (starts four : Bool) → Counts x starts four → utf16_length (x ∷ xs) ≡ (one_or_none starts + one_or_none four) + utf16_length xs
counted x xs starts four (a, b) =
    let first = sum_by-append (λ y. cond (begins_character y) 1 0) (x ∷ []) xs in
    let second = sum_by-append (λ y. cond (nat_le 0xF0 y) 1 0) (x ∷ []) xs in
    let one : 0 + one_or_none (begins_character x) ≡ 0 + one_or_none starts = ap (λ (t : Bool). 0 + one_or_none t) a in
    let two : 0 + one_or_none (nat_le 0xF0 x) ≡ 0 + one_or_none four = ap (λ (t : Bool). 0 + one_or_none t) b in
    omega (arith, first, second, one, two)

units_if : (c : ℕ) (below : Bool) → nat_lt c 0x1_0000 ≡ below → length (encode_utf16 c) ≡ cond below 1 2
units_if c true is = ap (λ (b : Bool). length (cond b (c ∷ []) ((0xD800 + (c - 0x1_0000) / 0x400) ∷ (0xDC00 + (c - 0x1_0000) % 0x400) ∷ []))) is
units_if c false is = ap (λ (b : Bool). length (cond b (c ∷ []) ((0xD800 + (c - 0x1_0000) / 0x400) ∷ (0xDC00 + (c - 0x1_0000) % 0x400) ∷ []))) is

below_all : (c : ℕ) → scalar c ≡ true → c < 1114112
below_all c is = elim (scalar_cases c is) [ inl small ↦ omega (arith, small) | inr large ↦ large.1 ]

one_unit : (c : ℕ) → scalar c ≡ true → utf16_length (encode c) ≡ length (encode_utf16 c)
unfolding encode
one_unit c is =
    elim (cases_lt c 128) [
      | inl one ↦
          let test : nat_lt c 128 ≡ true = grind (arith, tests, one) in
          let small : nat_lt c 0x1_0000 ≡ true = grind (arith, tests, one) in
          let count = counted c [] true false (low c one) in
          let units = units_if c true small in
          rw test (omega (arith, count, units))
      | inr above ↦
          let test : nat_lt c 128 ≡ false = grind (arith, tests, above) in
          rw test (elim (cases_lt c 2048) [
            | inl two ↦
                let test_two : nat_lt c 2048 ≡ true = grind (arith, tests, two) in
                let small : nat_lt c 0x1_0000 ≡ true = grind (arith, tests, two) in
                let count = counted (192 + c / 64) (next c ∷ []) true false (begins (192 + c / 64) (omega arith) (omega (arith, two))) in
                let rest = counted (next c) [] false false (behind c) in
                let units = units_if c true small in
                rw test_two (omega (arith, count, rest, units))
            | inr above_two ↦
                let test_two : nat_lt c 2048 ≡ false = grind (arith, tests, above_two) in
                rw test_two (elim (cases_lt c 65536) [
                  | inl three ↦
                      let test_three : nat_lt c 65536 ≡ true = grind (arith, tests, three) in
                      let count = counted (224 + c / 4096) (next (c / 64) ∷ next c ∷ []) true false (begins (224 + c / 4096) (omega arith) (omega (arith, three))) in
                      let rest = counted (next (c / 64)) (next c ∷ []) false false (behind (c / 64)) in
                      let last = counted (next c) [] false false (behind c) in
                      let units = units_if c true test_three in
                      rw test_three (omega (arith, count, rest, last, units))
                  | inr above_three ↦
                      let test_three : nat_lt c 65536 ≡ false = grind (arith, tests, above_three) in
                      let count = counted (240 + c / 262144) (next (c / 4096) ∷ next (c / 64) ∷ next c ∷ []) true true (begins_four (240 + c / 262144) (omega arith)) in
                      let second = counted (next (c / 4096)) (next (c / 64) ∷ next c ∷ []) false false (behind (c / 4096)) in
                      let rest = counted (next (c / 64)) (next c ∷ []) false false (behind (c / 64)) in
                      let last = counted (next c) [] false false (behind c) in
                      let units = units_if c false test_three in
                      rw test_three (omega (arith, count, second, rest, last, units))
                ])
          ])
    ]

both_counts : (xs ys : List ℕ) → utf16_length (xs ++ ys) ≡ utf16_length xs + utf16_length ys
both_counts xs ys =
    let first = sum_by-append (λ x. cond (begins_character x) 1 0) xs ys in
    let second = sum_by-append (λ x. cond (nat_le 0xF0 x) 1 0) xs ys in
    omega (arith, first, second)

first_is : (a b : Bool) → (a && b) ≡ true → (a ≡ true) × (b ≡ true)
first_is true b is = (refl, is)
first_is false b is = cc

all_units : (cs : List ℕ) → scalars cs ≡ true → utf16_length (encodes cs) ≡ length (flat_map encode_utf16 cs)
all_units [] is = refl
all_units (c ∷ cs) is =
    let parts = first_is (scalar c) (scalars cs) is in
    let first = one_unit c parts.0 in
    let rest = all_units cs parts.1 in
    omega (arith, first, rest, both_counts (encode c) (encodes cs), length-append (encode_utf16 c) (flat_map encode_utf16 cs))

pub same_units : (name : List ℕ) → IsUtf8 name → length (units_in name) ≡ utf16_length name
same_units name utf8 = sym (all_units (chars name) (scalars-chars name utf8)) ∙ ap utf16_length (encodes-chars name utf8)
