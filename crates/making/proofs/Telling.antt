-- What is counted, from one step of a loop to the next.
use Rattle.std.proofs.Common.{◌≡◌, ℕ, zero, suc, ◌+◌, ◌-◌, ◌<◌, ◌≤◌, Bool, true, false, cond, List, [], ◌∷◌, ◌++◌, length, take, Option, Some, None, refl, sym, ap, ◌∙◌, arith}
use Rattle.std.proofs.lemmas.List.Sums.{sum_by-append}
use Rattle.std.specs.Prelude.{min, slice_get, option_to_list}
use Rattle.std.specs.Int.{from_bool}
use Rattle.std.specs.List.{before_first, after_first}
use Rattle.bt_base.specs.Objects.{Object}
use Rattle.making.specs.Counting.{is_feed, tells_done, done_lines, length_of, octet_count, octets_counted, most_octets}

-- ---- the lines of a report

pub no_lines : (report : List ℕ) → done_lines 0 report ≡ 0
unfolding done_lines
no_lines report = refl

pub first_line : (n : ℕ) (report : List ℕ) → done_lines (suc n) report ≡ cond (tells_done (before_first is_feed report)) 1 0 + done_lines n (after_first is_feed report)
unfolding done_lines
first_line n report = refl

-- so many lines of a report were looked at, and so much is left of it
pub record HasCounted (report rest : List ℕ) (i done : ℕ) : Type 0 where
  pub few : done ≤ i
  pub sum : done + done_lines (8 - i) rest ≡ done_lines 8 report

pub counted_none : (report : List ℕ) → HasCounted report report 0 0
counted_none report = record { few = omega arith; sum = omega arith }

line_ahead : (i n : ℕ) (rest : List ℕ) → suc n ≡ 8 - i → done_lines (8 - i) rest ≡ cond (tells_done (before_first is_feed rest)) 1 0 + done_lines n (after_first is_feed rest)
line_ahead i n rest e = ap (λ (k : ℕ). done_lines k rest) (sym e) ∙ first_line n rest

at_most_one : (b : Bool) → cond b 1 0 ≤ 1
at_most_one true = omega arith
at_most_one false = omega arith

one_if : (b : Bool) → from_bool b ≡ cond b 1 0
one_if true = refl
one_if false = refl

pub passed : (report rest line more : List ℕ) (i i' done one : ℕ) (told : Bool) → i < 8 → i' ≡ i + 1 → line ≡ before_first is_feed rest → more ≡ after_first is_feed rest → told ≡ tells_done line → one ≡ from_bool told
    → HasCounted report rest i done → HasCounted report more i' (done + one)
passed report rest line more i i' done one told lt ei el em et eo has =
    let is : one ≡ cond (tells_done line) 1 0 = eo ∙ one_if told ∙ ap (λ (b : Bool). cond b 1 0) et in
    let step : done_lines (8 - i) rest ≡ cond (tells_done line) 1 0 + done_lines (8 - i') more =
    line_ahead i (8 - i') rest (omega arith) ∙ ap (λ (l : List ℕ). cond (tells_done l) 1 0 + done_lines (8 - i') (after_first is_feed rest)) (sym el) ∙ ap (λ (m : List ℕ). cond (tells_done line) 1 0 + done_lines (8 - i') m) (sym em) in
    let small : cond (tells_done line) 1 0 ≤ 1 = at_most_one (tells_done line) in
    record { few = omega (arith, has.few); sum = omega (arith, has.sum) }

pub counted_all : (report rest : List ℕ) (i done : ℕ) → 8 ≤ i → HasCounted report rest i done → done ≡ done_lines 8 report
counted_all report rest i done le has =
    let none : done_lines (8 - i) rest ≡ 0 = ap (λ (k : ℕ). done_lines k rest) (omega arith) ∙ no_lines rest in
    omega (arith, has.sum)

-- ---- the octets of objects

take_next : {A : Type 0} (xs : List A) (i : ℕ) → take (suc i) xs ≡ take i xs ++ option_to_list (slice_get xs i)
take_next [] zero = refl
take_next [] (suc i) = refl
take_next (x ∷ xs) zero = refl
take_next (x ∷ xs) (suc i) = ap (λ t. x ∷ t) (take_next xs i)

count_one : (object : Option Object) → octet_count (option_to_list object) ≡ length_of object
count_one None = refl
count_one (Some object) = omega arith

count_next : (stored : List Object) (i : ℕ) → octet_count (take (suc i) stored) ≡ octet_count (take i stored) + length_of (slice_get stored i)
count_next stored i =
    ap octet_count (take_next stored i) ∙ sum_by-append (λ (object : Object). length object.octets) (take i stored) (option_to_list (slice_get stored i))
    ∙ ap (λ (n : ℕ). octet_count (take i stored) + n) (count_one (slice_get stored i))

pub octets_next : (stored : List Object) (i octets : ℕ) → octets ≡ octets_counted (take i stored) → min (octets + length_of (slice_get stored i)) most_octets ≡ octets_counted (take (i + 1) stored)
octets_next stored i octets e =
    let next : octet_count (take (i + 1) stored) ≡ octet_count (take i stored) + length_of (slice_get stored i) = let e : i + 1 ≡ suc i = omega arith in ap (λ (k : ℕ). octet_count (take k stored)) e ∙ count_next stored i in
    omega (arith, next)
