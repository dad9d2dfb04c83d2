-- What `parse` gives of a number of a scenario.
use Rattle.std.proofs.Common.{◌≡◌, ℕ, zero, suc, ◌<◌, ◌≤◌, ◌^◌, Bool, true, false, cond, List, [], ◌∷◌, length, get_or, Option, Some, Result, Ok, refl, ap, ◌∙◌, rules, arith, eqb, ltb, inl, inr, ◌⊎◌}
use Rattle.std.specs.Prelude.{decimal, nat_lt, nat_le}
use Rattle.std.specs.Result.{result_ok}
use Rattle.std.specs.List.{list_all}
use Rattle.std.specs.Str.Parse.{ParsesUnsigned}
use Rattle.std.proofs.lemmas.Bool.{ltb-false, eqb-false, eqb-true, le-ltb, lt-ltb, leb-true, and_parts, and_from}
use Rattle.std.proofs.lemmas.Fmt.{decimal_digit, decimal_nonempty, first_decimal, length-decimal-le, digits_decimal, digits_value-decimal}
use Rattle.std.proofs.lemmas.Str.Parse.{IsNumeralModel, numerals_by_fold, parse_gives, digits_value_short}
use Rattle.script_words.proofs.Splitting.{is_graphic, all_weaker}
use Rattle.script_words.specs.Parts.{is_digit, is_number, has_leading_zero, value_behind, number_of}

pub own : IsNumeralModel (λ ds. list_all is_digit ds ≡ true) (value_behind 0)
own = numerals_by_fold _ (search rules) value_behind (search rules)

pub split_number : (a b c d : Bool) → cond a false (cond b false (cond c false d)) ≡ true → (a ≡ false) × (b ≡ false) × (d ≡ true)
split_number true b c d h = absurd cc
split_number false true c d h = absurd cc
split_number false false true d h = absurd cc
split_number false false false d h = (refl, refl, h)

pub number_gives : {E : Type 0} (bs : List ℕ) (r : Result ℕ E) (o : Option ℕ) → is_number bs ≡ true → ParsesUnsigned 64 10 bs r → o ≡ result_ok r → o ≡ number_of bs
number_gives bs r o h parsed is =
    let parts : (eqb (length bs) 0 ≡ false) × (ltb 10 (length bs) ≡ false) × (list_all is_digit bs ≡ true) = split_number _ _ (has_leading_zero bs) _ h in
    let some : 0 < length bs = omega (arith, eqb-false _ _ parts.0) in
    let short : length bs ≤ 10 = ltb-false _ _ parts.1 in
    let gives : r ≡ Ok (value_behind 0 bs) = parse_gives own 64 bs r parsed parts.2 some (omega (arith, digits_value_short own bs 10 parts.2 short)) in
    is ∙ ap result_ok gives ∙ rw h refl

either : (b : Bool) → (b ≡ true) ⊎ (b ≡ false)
either true = inl refl
either false = inr refl

no_zero : (ds : List ℕ) → 48 < get_or ds 0 0 → has_leading_zero ds ≡ false
no_zero [] h = refl
no_zero (a ∷ []) h = refl
no_zero (a ∷ b ∷ more) h = elim (either (eqb a 48)) [ inl t ↦ absurd (omega (arith, eqb-true _ _ t)) | inr f ↦ f ]

no_zero_alone : (n : ℕ) → n < 10 ^ 10 → has_leading_zero (decimal n) ≡ false
no_zero_alone zero lt = rw (decimal_digit 0 (omega arith)) refl
no_zero_alone (suc n) lt = no_zero (decimal (suc n)) (first_decimal (suc n) (omega arith) (omega arith))

join_number : (a b c d : Bool) → a ≡ false → b ≡ false → c ≡ false → d ≡ true → cond a false (cond b false (cond c false d)) ≡ true
join_number a b c d ea eb ec ed = rw (ea, eb, ec, ed) refl

pub numbers_again : (n : ℕ) → n < 10 ^ 10 → number_of (decimal n) ≡ Some n
numbers_again n lt =
    let some : 0 < length (decimal n) = decimal_nonempty n (omega arith) in
    let short : length (decimal n) ≤ 10 = length-decimal-le 10 n (omega arith) lt (omega arith) in
    let a : eqb (length (decimal n)) 0 ≡ false = elim (either (eqb (length (decimal n)) 0)) [ inl t ↦ absurd (omega (arith, eqb-true _ _ t)) | inr f ↦ f ] in
    let b : ltb 10 (length (decimal n)) ≡ false = le-ltb _ _ short in
    let c : has_leading_zero (decimal n) ≡ false = no_zero_alone n lt in
    let d : list_all is_digit (decimal n) ≡ true = digits_decimal own n (omega arith) in
    let v : value_behind 0 (decimal n) ≡ n = digits_value-decimal own n (omega arith) in
    let is : is_number (decimal n) ≡ true = join_number _ _ _ _ a b c d in
    rw is (ap (λ (k : ℕ). Some k) v)

pub digits_number : (n : ℕ) → n < 10 ^ 10 → list_all is_digit (decimal n) ≡ true
digits_number n lt = digits_decimal own n (omega arith)

digit_graphic : (c : ℕ) → is_digit c ≡ true → is_graphic c ≡ true
digit_graphic c h =
    let parts : (nat_le 48 c ≡ true) × (nat_le c 57 ≡ true) = and_parts (nat_le 48 c) (nat_le c 57) h in
    let low : 48 ≤ c = leb-true 48 c parts.0 in
    let high : c ≤ 57 = leb-true c 57 parts.1 in
    and_from (nat_lt 32 c) (nat_lt c 127) (lt-ltb 32 c (omega arith)) (lt-ltb c 127 (omega arith))

-- the digits of a number are seen, and none is a blank
pub graphic_number : (n : ℕ) → n < 10 ^ 10 → list_all is_graphic (decimal n) ≡ true
graphic_number n lt = all_weaker is_digit is_graphic digit_graphic (decimal n) (digits_number n lt)
