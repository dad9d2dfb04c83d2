-- Answers that are owed, one more.
use Rattle.std.proofs.Common.{◌≡◌, ℕ, ◌+◌, ◌≤◌, ◌||◌, Bool, true, false, List, [], ◌∷◌, ◌++◌, length, subst, arith, inl, inr, length-append}
use Rattle.std.specs.Prelude.{nat_le, OnErr, Result}
use Rattle.std.proofs.lemmas.Bool.{or_right, or_left, or_cases, leb-true, le-leb}
use Rattle.std.proofs.lemmas.Result.{on_err_weaker}
use Rattle.push_terms.specs.declared.word.Side.{Side}
use Rattle.push_terms.specs.declared.word.Side.TheVariants as sides
use Rattle.radio_model.specs.Controllers.{Answer}
use Rattle.radio_model.specs.Radio.{Radio, owes, scanning}
use Rattle.radio_model.specs.Owed.{owes_many}

one_less : (m n : ℕ) → n ≤ m + 1 → nat_le 16 n ≡ true → nat_le 15 m ≡ true
one_less m n near many = le-leb 15 m (omega (arith, leb-true 16 n many))

both_less : (a b c d : ℕ) → c ≤ a + 1 → d ≤ b + 1 → (nat_le 16 c || nat_le 16 d) ≡ true → (nat_le 15 a || nat_le 15 b) ≡ true
both_less a b c d near_a near_b many =
    elim (or_cases (nat_le 16 c) (nat_le 16 d) many) [
      | inl first ↦ or_left (nat_le 15 a) (nat_le 15 b) (one_less a c near_a first)
      | inr second ↦ or_right (nat_le 15 a) (nat_le 15 b) (one_less b d near_b second)
    ]

-- where sixteen are owed with one answer more, fifteen were owed
pub owing_more : (side : Side) (answer : Answer) (radio : Radio) → owes_many 16 (owes side (answer ∷ []) radio) ≡ true → owes_many 15 radio ≡ true
owing_more sides.A answer radio many =
    both_less (length radio.a.owed) (length radio.b.owed) (length (radio.a.owed ++ answer ∷ [])) (length radio.b.owed) (omega (arith, length-append radio.a.owed (answer ∷ []))) (omega arith) many
owing_more sides.B answer radio many =
    both_less (length radio.a.owed) (length radio.b.owed) (length radio.a.owed) (length (radio.b.owed ++ answer ∷ [])) (omega arith) (omega (arith, length-append radio.b.owed (answer ∷ []))) many

pub scanned_more : (side : Side) (value : ℕ) (answer : Answer) (radio : Radio) → owes_many 16 (owes side (answer ∷ []) (scanning side value radio)) ≡ true → owes_many 15 radio ≡ true
scanned_more sides.A value answer radio many = owing_more sides.A answer radio many
scanned_more sides.B value answer radio many = owing_more sides.B answer radio many

-- so at every error of what comes behind an answer
pub full_after : {T E : Type 0} (result : Result T E) (side : Side) (answer : Answer) (old mid : Radio) → mid ≡ owes side (answer ∷ []) old
    → OnErr result (owes_many 16 mid ≡ true) → OnErr result (owes_many 15 old ≡ true)
full_after result side answer old mid is full = on_err_weaker result (λ many. owing_more side answer old (subst (λ radio. owes_many 16 radio ≡ true) is many)) full

pub full_scanned : {T E : Type 0} (result : Result T E) (side : Side) (value : ℕ) (answer : Answer) (old scanned mid : Radio) → scanned ≡ scanning side value old → mid ≡ owes side (answer ∷ []) scanned
    → OnErr result (owes_many 16 mid ≡ true) → OnErr result (owes_many 15 old ≡ true)
full_scanned result side value answer old scanned mid one two full =
    on_err_weaker result (λ many. scanned_more side value answer old (subst (λ radio. owes_many 16 (owes side (answer ∷ []) radio) ≡ true) one (subst (λ radio. owes_many 16 radio ≡ true) two many))) full
