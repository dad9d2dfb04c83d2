-- What is read of a text is written so: numbers, digits, words and their parts.
use Rattle.std.proofs.Common.{◌≡◌, ℕ, suc, ◌+◌, ◌-◌, ◌*◌, ◌/◌, ◌%◌, ◌^◌, ◌<◌, ◌≤◌, inl, inr, Bool, true, false, not, cond, List, [], ◌∷◌, ◌++◌, length, take, drop, get_or, Option, Some, None, refl, sym, ap, subst, ◌∙◌, arith, eqb, ltb}
use Rattle.std.specs.Prelude.{IfSome, codes, nat_lt, nat_le, decimal, ◌==◌, ◌&&◌}
use Rattle.std.specs.List.{position_or_len, list_all}
use Rattle.std.specs.Str.{bytes_eq}
use Rattle.std.proofs.lemmas.Bool.{cases_Bool, cond_both, eqb-true, eqb-false, ltb-true, ltb-false, leb-true, and_parts, lt-ltb, le-ltb}
use Rattle.std.proofs.lemmas.Fmt.{decimal-digits_value}
use Rattle.std.proofs.lemmas.List.{take_all}
use Rattle.std.proofs.lemmas.Slice.Eq.{bytes_eq-Decides}
use Rattle.std.proofs.lemmas.Str.Parse.{digits_value_short}
use Rattle.push_terms.specs.declared.word.Way.{Way}
use Rattle.push_terms.specs.declared.word.Way.TheVariants.{Ab, Ba}
use Rattle.push_terms.specs.declared.word.Side.{Side}
use Rattle.push_terms.specs.declared.word.Side.TheVariants as sides
use Rattle.push_terms.specs.Words.{hex_digit, hex_octet, hex_word, way_text, side_text}
use Rattle.script_words.specs.Parts.{and_then, first_word, rest_of, is_digit, is_number, has_leading_zero, value_behind, number_of, way_of, side_of, hex_value, mask_of, octet_of}
use Rattle.script_words.proofs.Numbers.{own, split_number}

-- ---- what a value that came of another tells

pub some_of : {A : Type 0} {x y : A} → Some x ≡ Some y → x ≡ y
some_of e = cc

pub none_some : {A : Type 0} {y : A} → None ≡ Some y → ⊥
none_some e = absurd cc

pub then_from : {A B : Type 0} (o : Option A) (f : A → Option B) (y : B) → and_then o f ≡ Some y → (x : A) × (o ≡ Some x) × (f x ≡ Some y)
then_from (Some x) f y e = (x, refl, e)
then_from None f y e = absurd (none_some e)

pub same_text : (xs ys : List ℕ) → bytes_eq xs ys ≡ true → xs ≡ ys
same_text xs ys e = (bytes_eq-Decides xs ys).0 e

-- something holds of each value that is there
abbrev pub Gives : {A : Type 0} → (A → Type 0) → Option A → Type 0
Gives {A = A} P o = (x : A) → o ≡ Some x → P x

pub gives_none : {A : Type 0} (P : A → Type 0) → Gives P None
gives_none P x e = absurd (none_some e)

pub gives_some : {A : Type 0} (P : A → Type 0) (x : A) → P x → Gives P (Some x)
gives_some P x holds y e = subst P (some_of e) holds

pub gives_then : {A B : Type 0} (P : B → Type 0) (o : Option A) (f : A → Option B) → ((x : A) → o ≡ Some x → Gives P (f x)) → Gives P (and_then o f)
gives_then P (Some x) f holds = holds x refl
gives_then P None f holds = gives_none P

pub gives_if : {A : Type 0} (P : A → Type 0) (o : Option A) → Gives P o → IfSome o P
gives_if P (Some x) holds = holds x refl
gives_if P None holds = tt

-- a choice by a word
pub gives_choice : {A : Type 0} (P : A → Type 0) (word name : List ℕ) (one other : Option A) → (word ≡ name → Gives P one) → Gives P other → Gives P (cond (bytes_eq word name) one other)
gives_choice P word name one other is not = cond_both (bytes_eq word name) one other (Gives P) (λ same. is (same_text word name same)) (λ differ. not)

pub only_if : {A : Type 0} (b : Bool) (x y : A) → cond b (Some x) None ≡ Some y → (b ≡ true) × (x ≡ y)
only_if true x y e = (refl, some_of e)
only_if false x y e = absurd (none_some e)

-- ---- the words of a line

abbrev blank_at : List ℕ → ℕ
blank_at text = position_or_len (λ octet. octet == 32) text

abbrev IsParted : List ℕ → Type 0
IsParted text = nat_lt (blank_at text) (length text) ≡ true → text ≡ take (blank_at text) text ++ 32 ∷ drop (blank_at text + 1) text

parted_first : (x : ℕ) (xs : List ℕ) → (x == 32) ≡ true → IsParted (x ∷ xs)
parted_first x xs is within = rw (is, eqb-true x 32 is) refl

later : (n : ℕ) (x : ℕ) (xs : List ℕ) → xs ≡ take n xs ++ 32 ∷ drop (n + 1) xs → x ∷ xs ≡ take (1 + n) (x ∷ xs) ++ 32 ∷ drop (1 + n + 1) (x ∷ xs)
later n x xs e = let one : 1 + n ≡ suc n = omega arith in let two : suc n + 1 ≡ suc (n + 1) = omega arith in rw (one, two) (ap (λ (t : List ℕ). x ∷ t) e)

within_later : (n m : ℕ) → nat_lt (1 + n) (suc m) ≡ true → nat_lt n m ≡ true
within_later n m e = lt-ltb n m (omega (arith, ltb-true (1 + n) (suc m) e))

parted_behind : (x : ℕ) (xs : List ℕ) → (x == 32) ≡ false → IsParted xs → IsParted (x ∷ xs)
parted_behind x xs other before =
    let place : blank_at (x ∷ xs) ≡ 1 + blank_at xs = rw other refl in
    λ within.
    let now : nat_lt (1 + blank_at xs) (suc (length xs)) ≡ true = ap (λ (n : ℕ). nat_lt n (suc (length xs))) (sym place) ∙ within in
    subst (λ (n : ℕ). x ∷ xs ≡ take n (x ∷ xs) ++ 32 ∷ drop (n + 1) (x ∷ xs)) (sym place)
    (later (blank_at xs) x xs (before (within_later (blank_at xs) (length xs) now)))

parted : (text : List ℕ) → IsParted text
parted [] within = absurd cc
parted (x ∷ xs) within = elim (cases_Bool (x == 32)) [
  | inl is ↦ parted_first x xs is within
  | inr other ↦ parted_behind x xs other (parted xs) within
]

pub line_parted : (line rest : List ℕ) → rest_of line ≡ Some rest → line ≡ first_word line ++ 32 ∷ rest
line_parted line rest e =
    let parts = only_if _ _ rest e in
    parted line parts.0 ∙ ap (λ (t : List ℕ). first_word line ++ 32 ∷ t) parts.1

some_is_none : {A : Type 0} (b : Bool) (x : A) → cond b (Some x) None ≡ None → b ≡ false
some_is_none true x e = absurd cc
some_is_none false x e = refl

-- a line without a blank is its first word
pub line_whole : (line : List ℕ) → rest_of line ≡ None → first_word line ≡ line
line_whole line e = take_all (blank_at line) line (ltb-false _ _ (some_is_none _ _ e))

-- ---- numbers

head_zero : (text : List ℕ) → has_leading_zero text ≡ false → 0 < length text → get_or text 0 0 ≡ 48 → length text ≡ 1
head_zero [] h some e = absurd (omega arith)
head_zero (a ∷ []) h some e = refl
head_zero (a ∷ b ∷ more) h some e = absurd (eqb-false a 48 h e)

numeral : (a b c d : Bool) → cond a false (cond b false (cond c false d)) ≡ true → c ≡ false
numeral true b c d h = absurd cc
numeral false true c d h = absurd cc
numeral false false true d h = absurd cc
numeral false false false d h = refl

pub number_written : (text : List ℕ) (n : ℕ) → number_of text ≡ Some n → text ≡ decimal n
number_written text n e =
    let found : (is_number text ≡ true) × (value_behind 0 text ≡ n) = only_if _ _ n e in
    let parts : (eqb (length text) 0 ≡ false) × (ltb 10 (length text) ≡ false) × (list_all is_digit text ≡ true) = split_number _ _ (has_leading_zero text) _ found.0 in
    let some : 0 < length text = omega (arith, eqb-false (length text) 0 parts.0) in
    let short : length text ≤ 10 = ltb-false 10 (length text) parts.1 in
    let small : value_behind 0 text < 10 ^ 10 = digits_value_short own text 10 parts.2 short in
    let again : decimal (value_behind 0 text) ≡ text = decimal-digits_value own text parts.2 some (head_zero text (numeral _ _ _ _ found.0) some) (omega (arith, small)) in
    sym again ∙ ap decimal found.1

-- ---- hexadecimal digits

digit_low : (c v : ℕ) → is_digit c ≡ true → c - 48 ≡ v → (c ≡ hex_digit v) × (v < 16)
digit_low c v is e =
    let parts : (nat_le 48 c ≡ true) × (nat_le c 57 ≡ true) = and_parts (nat_le 48 c) (nat_le c 57) is in
    let low : 48 ≤ c = leb-true 48 c parts.0 in
    let high : c ≤ 57 = leb-true c 57 parts.1 in
    let below : nat_lt v 10 ≡ true = lt-ltb v 10 (omega arith) in
    let same : 48 + v ≡ c = omega arith in
    (rw below (sym same), omega arith)

digit_high : (c v : ℕ) → (nat_le 65 c && nat_le c 70) ≡ true → c - 65 + 10 ≡ v → (c ≡ hex_digit v) × (v < 16)
digit_high c v is e =
    let parts : (nat_le 65 c ≡ true) × (nat_le c 70 ≡ true) = and_parts (nat_le 65 c) (nat_le c 70) is in
    let low : 65 ≤ c = leb-true 65 c parts.0 in
    let high : c ≤ 70 = leb-true c 70 parts.1 in
    let above : nat_lt v 10 ≡ false = le-ltb v 10 (omega arith) in
    let same : 65 + (v - 10) ≡ c = omega arith in
    (rw above (sym same), omega arith)

pub digit_written : (c v : ℕ) → hex_value c ≡ Some v → (c ≡ hex_digit v) × (v < 16)
digit_written c v e = cond_both (is_digit c) (Some (c - 48)) (cond (nat_le 65 c && nat_le c 70) (Some (c - 65 + 10)) None) (λ o. o ≡ Some v → (c ≡ hex_digit v) × (v < 16))
    (λ is now. digit_low c v is (some_of now))
    (λ other now. let found = only_if _ _ v now in digit_high c v found.0 found.1)
    e

pub octet_written : (text : List ℕ) (n : ℕ) → octet_of text ≡ Some n → (text ≡ hex_octet n) × (n < 256)
octet_written (h ∷ l ∷ []) n e =
    let high = then_from (hex_value h) _ n e in
    let low = then_from (hex_value l) _ n high.2 in
    let is-high = digit_written h high.0 high.1 in
    let is-low = digit_written l low.0 low.1 in
    let sum : high.0 * 16 + low.0 ≡ n = some_of low.2 in
    let up : n / 16 ≡ high.0 = omega (arith, is-high.1, is-low.1, sum) in
    let down : n % 16 ≡ low.0 = omega (arith, is-high.1, is-low.1, sum) in
    (rw (up, down) (ap (λ (t : ℕ). t ∷ l ∷ []) is-high.0 ∙ ap (λ (t : ℕ). hex_digit high.0 ∷ t ∷ []) is-low.0), omega (arith, is-high.1, is-low.1, sum))
octet_written [] n e = absurd (none_some e)
octet_written (a ∷ []) n e = absurd (none_some e)
octet_written (a ∷ b ∷ c ∷ more) n e = absurd (none_some e)

four_same : (w x y z a b c d m : ℕ) → w ≡ hex_digit a → x ≡ hex_digit b → y ≡ hex_digit c → z ≡ hex_digit d → a < 16 → b < 16 → c < 16 → d < 16 → ((a * 16 + b) * 16 + c) * 16 + d ≡ m → w ∷ x ∷ y ∷ z ∷ [] ≡ hex_word m
four_same w x y z a b c d m ew ex ey ez la lb lc ld sum =
    let one : m / 256 / 16 ≡ a = omega arith in
    let two : m / 256 % 16 ≡ b = omega arith in
    let three : m % 256 / 16 ≡ c = omega arith in
    let four : m % 256 % 16 ≡ d = omega arith in
    rw (one, two, three, four, ew, ex, ey, ez) refl

pub mask_written : (text : List ℕ) (m : ℕ) → mask_of text ≡ Some m → text ≡ hex_word m
mask_written (w ∷ x ∷ y ∷ z ∷ []) m e =
    let first = then_from (hex_value w) _ m e in
    let second = then_from (hex_value x) _ m first.2 in
    let third = then_from (hex_value y) _ m second.2 in
    let fourth = then_from (hex_value z) _ m third.2 in
    let ew = digit_written w first.0 first.1 in
    let ex = digit_written x second.0 second.1 in
    let ey = digit_written y third.0 third.1 in
    let ez = digit_written z fourth.0 fourth.1 in
    four_same w x y z first.0 second.0 third.0 fourth.0 m ew.0 ex.0 ey.0 ez.0 ew.1 ex.1 ey.1 ez.1 (some_of fourth.2)
mask_written [] m e = absurd (none_some e)
mask_written (a ∷ []) m e = absurd (none_some e)
mask_written (a ∷ b ∷ []) m e = absurd (none_some e)
mask_written (a ∷ b ∷ c ∷ []) m e = absurd (none_some e)
mask_written (a ∷ b ∷ c ∷ d ∷ f ∷ more) m e = absurd (none_some e)

-- ---- directions and hosts

pub way_written : (text : List ℕ) (way : Way) → way_of text ≡ Some way → text ≡ way_text way
way_written text way e = cond_both (bytes_eq text (codes "ab")) (Some Ab) (cond (bytes_eq text (codes "ba")) (Some Ba) None) (λ o. o ≡ Some way → text ≡ way_text way)
    (λ is now. same_text text (codes "ab") is ∙ ap way_text (some_of now))
    (λ other now. let found = only_if _ _ way now in same_text text (codes "ba") found.0 ∙ ap way_text found.1)
    e

pub side_written : (text : List ℕ) (side : Side) → side_of text ≡ Some side → text ≡ side_text side
side_written text side e = cond_both (bytes_eq text (codes "a")) (Some sides.A) (cond (bytes_eq text (codes "b")) (Some sides.B) None) (λ o. o ≡ Some side → text ≡ side_text side)
    (λ is now. same_text text (codes "a") is ∙ ap side_text (some_of now))
    (λ other now. let found = only_if _ _ side now in same_text text (codes "b") found.0 ∙ ap side_text found.1)
    e
