-- The answers to a payload, one step after the other.
use Rattle.std.proofs.Common.{◌≡◌, ℕ, zero, suc, ◌<◌, ◌≤◌, Bool, true, false, cond, List, [], ◌∷◌, length, take, drop, eqb, refl, sym, ap, ◌∙◌, arith, length-drop, slice_get}
use Rattle.std.specs.Prelude.{Some, Err, slice_index, nat_lt}
use Rattle.std.proofs.lemmas.Bool.{eqb-true}
use Rattle.l2cap_signal.specs.declared.refusal.SignalRefusal.TheVariants.{BadLength, AboveMtu}
use Rattle.l2cap_signal.specs.Reading.{Answer, word_at, judged, first, answers_within, answers}

-- what holds of the rest on both ways holds behind a test
either : (P : Answer × List ℕ → Type 0) (b : Bool) (x y : Answer × List ℕ) → P x → P y → P (cond b x y)
either P true x y p q = p
either P false x y p q = q

pub first_shorter : (octets : List ℕ) → 0 < length octets → length (first octets).1 < length octets
unfolding first
first_shorter octets some =
    let code = slice_index octets 0 in
    let identifier = slice_get octets 1 in
    let size = word_at 2 octets in
    let P : Answer × List ℕ → Type 0 = λ x. length x.1 < length octets in
    let whole : Answer × List ℕ = (judged code (slice_index octets 1) (take size (drop 4 octets)), drop size (drop 4 octets)) in
    let bad : Answer × List ℕ = (Err (BadLength code identifier), []) in
    let above : Answer × List ℕ = (Err (AboveMtu code identifier), []) in
    let last : P whole = omega (arith, length-drop size (drop 4 octets), length-drop 4 octets) in
    let third = either P (nat_lt (length (drop 4 octets)) size) bad whole some last in
    let second = either P (nat_lt (length octets) 4) bad _ some third in
    either P (nat_lt 672 (length octets)) above _ some second

within_same : (m n : ℕ) (octets : List ℕ) → length octets ≤ m → length octets ≤ n → answers_within m octets ≡ answers_within n octets
unfolding answers_within
within_same zero zero octets p q = refl
within_same zero (suc n) [] p q = refl
within_same zero (suc n) (o ∷ octets) p q = absurd (omega arith)
within_same (suc m) zero [] p q = refl
within_same (suc m) zero (o ∷ octets) p q = absurd (omega arith)
within_same (suc m) (suc n) [] p q = refl
within_same (suc m) (suc n) (o ∷ octets) p q =
    let less = first_shorter (o ∷ octets) (omega arith) in
    ap (λ (rest : List Answer). (first (o ∷ octets)).0 ∷ rest) (within_same m n (first (o ∷ octets)).1 (omega arith) (omega arith))

pub answers_nothing : (octets : List ℕ) → length octets ≡ 0 → answers octets ≡ []
unfolding answers answers_within
answers_nothing [] none = refl
answers_nothing (o ∷ octets) none = absurd (omega arith)

-- a step takes the first answer, and leaves those to the rest
pub answers_step : (octets : List ℕ) → 0 < length octets → answers octets ≡ (first octets).0 ∷ answers (first octets).1
unfolding answers answers_within
answers_step [] some = absurd (omega arith)
answers_step (o ∷ octets) some =
    let less = first_shorter (o ∷ octets) some in
    ap (λ (rest : List Answer). (first (o ∷ octets)).0 ∷ rest) (within_same (length octets) (length (first (o ∷ octets)).1) (first (o ∷ octets)).1 (omega arith) (omega arith))

-- what a step answers and leaves, where it took a and left rest
pub step_is : (octets : List ℕ) (now : List Answer) (a : Answer) (rest : List ℕ) → answers octets ≡ now → eqb (length octets) 0 ≡ false → (a, rest) ≡ first octets → (Some a ≡ slice_get now 0) × (answers rest ≡ drop 1 now)
step_is [] now a rest seen some e = absurd cc
step_is (o ∷ octets) now a rest seen some e =
    let whole : now ≡ a ∷ answers rest = sym seen ∙ answers_step (o ∷ octets) (omega arith) ∙ ap (λ (p : Answer × List ℕ). p.0 ∷ answers p.1) (sym e) in
    (rw whole refl, rw whole refl)

-- nothing is answered to nothing
pub end_is : (octets : List ℕ) (now : List Answer) → answers octets ≡ now → eqb (length octets) 0 ≡ true → now ≡ []
end_is [] now seen none = sym seen ∙ answers_nothing [] refl
end_is (o ∷ octets) now seen none = absurd (omega (arith, eqb-true _ _ none))
