-- The packets that are outstanding, counted answer by answer.
use Rattle.std.proofs.Common.{◌≡◌, ℕ, ◌+◌, ◌-◌, ◌^◌, ◌<◌, ◌≤◌, List, [], ◌∷◌, ◌++◌, length, take, map, get_or, sym, ap, ◌∙◌, arith}
use Rattle.std.specs.Prelude.{min, slice_get, zero, suc, Option, Some, None}
use Rattle.std.proofs.lemmas.List.{take_all, take_more, map-append}
use Rattle.radio_air.specs.declared.answer.Answer.{Answer as Told}
use Rattle.radio_model.specs.Controllers.{Answer}
use Rattle.radio_air.specs.Plain.{plain_answer}
use Rattle.radio_model.specs.Owed.{back, back_by}
use Rattle.radio_model.proofs.Outstanding.{back-append}

-- one answer more
pub back-more : (told i : ℕ) (answers : List Told) (answer : Told) → i < length answers → get_or answers i answer ≡ answer
    → back told (map plain_answer (take (i + 1) answers)) ≡ back told (map plain_answer (take i answers)) + back_by told (plain_answer answer)
back-more told i answers answer below is =
    ap (λ xs. back told (map plain_answer xs)) (take_more answers i answer below)
    ∙ ap (back told) (map-append plain_answer (take i answers) (get_or answers i answer ∷ []))
    ∙ back-append told (map plain_answer (take i answers)) (map plain_answer (get_or answers i answer ∷ []))
    ∙ ap (λ x. back told (map plain_answer (take i answers)) + back told (map plain_answer (x ∷ []))) is
    ∙ omega arith

-- a sum that stands still at its end
pub added : (a b c top : ℕ) → c ≡ min a top → min (c + b) top ≡ min (a + b) top
added a b c top e = omega arith

pub sum_more : (taken told number i count n total : ℕ) (answers : List Told) (answer : Told) → number ≡ told → i < length answers → get_or answers i answer ≡ answer
    → count ≡ min (taken + back told (map plain_answer (take i answers))) (2 ^ 64 - 1) → n ≡ back_by number (plain_answer answer) → total ≡ min (count + n) (2 ^ 64 - 1)
    → total ≡ min (taken + back told (map plain_answer (take (i + 1) answers))) (2 ^ 64 - 1)
sum_more taken told number i count n total answers answer same below is so_far gives sum =
    sum
    ∙ added (taken + back told (map plain_answer (take i answers))) n count (2 ^ 64 - 1) so_far
    ∙ ap (λ m. min ((taken + back told (map plain_answer (take i answers))) + m) (2 ^ 64 - 1)) (gives ∙ ap (λ k. back_by k (plain_answer answer)) same)
    ∙ ap (λ m. min m (2 ^ 64 - 1)) (let more = back-more told i answers answer below is in omega (arith, more))

pub sum_all : (taken told i count : ℕ) (answers : List Told) → length answers ≤ i
    → count ≡ min (taken + back told (map plain_answer (take i answers))) (2 ^ 64 - 1) → count ≡ min (taken + back told (map plain_answer answers)) (2 ^ 64 - 1)
sum_all taken told i count answers all is = is ∙ ap (λ xs. min (taken + back told (map plain_answer xs)) (2 ^ 64 - 1)) (take_all i answers all)

-- an item that was read
pub read_at : {X : Type 0} (xs : List X) (i : ℕ) (x : X) → Some x ≡ slice_get xs i → get_or xs i x ≡ x
read_at [] i x is = cc
read_at (y ∷ xs) zero x is = cc
read_at (y ∷ xs) (suc i) x is = read_at xs i x is
