-- What the tests of a direction say, and how they count.
use Rattle.std.proofs.Common.{ℕ, ◌≡◌, ◌+◌, ◌*◌, ◌<◌, ◌≤◌, ◌⊎◌, inl, inr, Bool, true, false, cond, List, [], ◌∷◌, refl, arith}
use Rattle.std.specs.Prelude.{◌==◌, ◌&&◌, ◌||◌, not, nat_lt}
use Rattle.std.proofs.Math.Nat.{mul-le-mul_left}
use Rattle.std.proofs.lemmas.Bool.{and_parts, and_from, or_cases, or_left, or_right, not-true, not_from_false, ltb-true, lt-ltb, eqb-true, eq-eqb}
use Rattle.ertm_model.specs.Pair.{Sent}
use Rattle.recovery_laws.specs.Number.{Direction, numbers, is_past, is_among, is_rejected, has_poll, has_final, is_still, skips, is_missing, is_untold, stalls, wants_again, wants_answer}

abbrev pub Skips : Direction → Type 0
Skips d = (d.rejecting ≡ false) × (is_past d.accepted (numbers d.going) ≡ true)

abbrev pub Missing : Direction → Type 0
Missing d = (d.accepted < d.given) × (is_among d.accepted (numbers d.going) ≡ false)

abbrev pub Untold : Direction → Type 0
Untold d = (d.accepted ≡ d.given) × (d.acknowledged < d.given) × (d.coming ≡ [])

abbrev pub Stalls : Direction → Type 0
Stalls d = (d.waits ≡ false) × (is_rejected d.accepted d.coming ≡ false) × (Missing d ⊎ Untold d)

abbrev pub WantsAgain : Direction → Type 0
WantsAgain d = Skips d ⊎ Stalls d

abbrev pub WantsAnswer : Direction → Type 0
WantsAnswer d = (d.waits ≡ true) × (has_poll d.going ≡ false) × (has_final d.coming ≡ false)

-- ---- what is tested

still-none : (queue : List Sent) → is_still queue ≡ true → queue ≡ []
still-none [] is = refl
still-none (sent ∷ queue) is = cc

none-still : (queue : List Sent) → queue ≡ [] → is_still queue ≡ true
none-still queue is = rw is refl

skips-says : (d : Direction) → skips d ≡ true → Skips d
skips-says d is = let both = and_parts (not d.rejecting) (is_past d.accepted (numbers d.going)) is in (not-true d.rejecting both.0, both.1)

skips-from : (d : Direction) → Skips d → skips d ≡ true
skips-from d (free, past) = and_from (not d.rejecting) (is_past d.accepted (numbers d.going)) (not_from_false d.rejecting free) past

missing-says : (d : Direction) → is_missing d ≡ true → Missing d
missing-says d is =
    let both = and_parts (nat_lt d.accepted d.given) (not (is_among d.accepted (numbers d.going))) is in
    (ltb-true d.accepted d.given both.0, not-true (is_among d.accepted (numbers d.going)) both.1)

missing-from : (d : Direction) → Missing d → is_missing d ≡ true
missing-from d (less, none) =
    and_from (nat_lt d.accepted d.given) (not (is_among d.accepted (numbers d.going))) (lt-ltb d.accepted d.given less) (not_from_false (is_among d.accepted (numbers d.going)) none)

untold-says : (d : Direction) → is_untold d ≡ true → Untold d
untold-says d is =
    let both = and_parts (d.accepted == d.given) (nat_lt d.acknowledged d.given && is_still d.coming) is in
    let rest = and_parts (nat_lt d.acknowledged d.given) (is_still d.coming) both.1 in
    (eqb-true d.accepted d.given both.0, ltb-true d.acknowledged d.given rest.0, still-none d.coming rest.1)

untold-from : (d : Direction) → Untold d → is_untold d ≡ true
untold-from d (same, less, none) =
    and_from (d.accepted == d.given) (nat_lt d.acknowledged d.given && is_still d.coming) (eq-eqb d.accepted d.given same)
    (and_from (nat_lt d.acknowledged d.given) (is_still d.coming) (lt-ltb d.acknowledged d.given less) (none-still d.coming none))

stalls-says : (d : Direction) → stalls d ≡ true → Stalls d
stalls-says d is =
    let both = and_parts (not d.waits) (not (is_rejected d.accepted d.coming) && (is_missing d || is_untold d)) is in
    let rest = and_parts (not (is_rejected d.accepted d.coming)) (is_missing d || is_untold d) both.1 in (
      not-true d.waits both.0,
      not-true (is_rejected d.accepted d.coming) rest.0,
      elim (or_cases (is_missing d) (is_untold d) rest.1) [ inl e ↦ inl (missing-says d e) | inr e ↦ inr (untold-says d e) ],
    )

lacks_from : (d : Direction) → Missing d ⊎ Untold d → (is_missing d || is_untold d) ≡ true
lacks_from d (inl h) = or_left (is_missing d) (is_untold d) (missing-from d h)
lacks_from d (inr h) = or_right (is_missing d) (is_untold d) (untold-from d h)

stalls-from : (d : Direction) → Stalls d → stalls d ≡ true
stalls-from d (quiet, unrejected, lacks) =
    and_from (not d.waits) (not (is_rejected d.accepted d.coming) && (is_missing d || is_untold d)) (not_from_false d.waits quiet)
    (and_from (not (is_rejected d.accepted d.coming)) (is_missing d || is_untold d) (not_from_false (is_rejected d.accepted d.coming) unrejected) (lacks_from d lacks))

pub again-says : (d : Direction) → wants_again d ≡ true → WantsAgain d
again-says d is = elim (or_cases (skips d) (stalls d) is) [ inl e ↦ inl (skips-says d e) | inr e ↦ inr (stalls-says d e) ]

pub again-from : (d : Direction) → WantsAgain d → wants_again d ≡ true
again-from d (inl h) = or_left (skips d) (stalls d) (skips-from d h)
again-from d (inr h) = or_right (skips d) (stalls d) (stalls-from d h)

pub answer-says : (d : Direction) → wants_answer d ≡ true → WantsAnswer d
answer-says d is =
    let both = and_parts d.waits (not (has_poll d.going) && not (has_final d.coming)) is in
    let rest = and_parts (not (has_poll d.going)) (not (has_final d.coming)) both.1 in
    (both.0, not-true (has_poll d.going) rest.0, not-true (has_final d.coming) rest.1)

pub answer-from : (d : Direction) → WantsAnswer d → wants_answer d ≡ true
answer-from d (waits, unpolled, unanswered) =
    and_from d.waits (not (has_poll d.going) && not (has_final d.coming)) waits
    (and_from (not (has_poll d.going)) (not (has_final d.coming)) (not_from_false (has_poll d.going) unpolled) (not_from_false (has_final d.coming) unanswered))

-- ---- how it counts

abbrev pub bit : Bool → ℕ
bit b = cond b 1 0

pub bit-at_most : (b : Bool) → bit b ≤ 1
bit-at_most true = omega arith
bit-at_most false = omega arith

pub bit-le : (b c : Bool) → (b ≡ true → c ≡ true) → bit b ≤ bit c
bit-le true c then = let e = then refl in rw e (omega arith)
bit-le false c then = omega arith

pub bit-none : (b : Bool) → (b ≡ true → ⊥) → bit b ≡ 0
bit-none true never = absurd (never refl)
bit-none false never = refl

pub bit-one : (b : Bool) → b ≡ true → bit b ≡ 1
bit-one true is = refl
bit-one false is = cc

-- what is due is no more than before
pub again-le : (d e : Direction) → (WantsAgain d → WantsAgain e) → bit (wants_again d) ≤ bit (wants_again e)
again-le d e then = bit-le (wants_again d) (wants_again e) (λ is. again-from e (then (again-says d is)))

pub again-none : (d : Direction) → (WantsAgain d → ⊥) → bit (wants_again d) ≡ 0
again-none d never = bit-none (wants_again d) (λ is. never (again-says d is))

pub again-one : (d : Direction) → WantsAgain d → bit (wants_again d) ≡ 1
again-one d h = bit-one (wants_again d) (again-from d h)

pub answer-le : (d e : Direction) → (WantsAnswer d → WantsAnswer e) → bit (wants_answer d) ≤ bit (wants_answer e)
answer-le d e then = bit-le (wants_answer d) (wants_answer e) (λ is. answer-from e (then (answer-says d is)))

pub answer-none : (d : Direction) → (WantsAnswer d → ⊥) → bit (wants_answer d) ≡ 0
answer-none d never = bit-none (wants_answer d) (λ is. never (answer-says d is))

pub answer-one : (d : Direction) → WantsAnswer d → bit (wants_answer d) ≡ 1
answer-one d h = bit-one (wants_answer d) (answer-from d h)

-- ---- the work, by its parts

abbrev pub work : (window left sendings firings : ℕ) → ℕ
work window left sendings firings = 2 * left + (2 * window * sendings + 3 * firings)

pub work-le : (w l l' s s' f f' : ℕ) → l' ≤ l → s' ≤ s → f' ≤ f → 0 + work w l' s' f' ≤ 0 + work w l s f
work-le w l l' s s' f f' le le' le'' = let e = mul-le-mul_left (2 * w) le' in omega arith

-- one frame more was given, or many were given again, which is paid with one sending less to come
pub work-new : (w l l' s s' f f' : ℕ) → l' + 1 ≤ l → s' ≤ s → f' ≤ f → 2 + work w l' s' f' ≤ 0 + work w l s f
work-new w l l' s s' f f' le le' le'' = let e = mul-le-mul_left (2 * w) le' in omega arith

pub work-again : (w k l l' s s' f f' : ℕ) → k ≤ w → l' ≤ l → s' + 1 ≤ s → f' ≤ f → 2 * k + work w l' s' f' ≤ 0 + work w l s f
work-again w k l l' s s' f f' few le le' le'' = let e = mul-le-mul_left (2 * w) le' in omega arith

-- a timer that had to fire did
pub work-fired : (w l l' s s' f f' : ℕ) → l' ≤ l → s' ≤ s → f' + 1 ≤ f → 3 + work w l' s' f' ≤ 0 + work w l s f
work-fired w l l' s s' f f' le le' le'' = let e = mul-le-mul_left (2 * w) le' in omega arith

-- something went wrong
pub work-harmed : (w l l' s s' f f' : ℕ) → l' ≤ l → s' ≤ s + 1 → f' ≤ f + 1 → 0 + work w l' s' f' ≤ (2 * w + 3) + work w l s f
work-harmed w l l' s s' f f' le le' le'' = let e = mul-le-mul_left (2 * w) le' in omega arith

pub work-asked : (w l l' s s' f f' : ℕ) → l' ≤ l → s' ≤ s → f' ≤ f + 1 → 0 + work w l' s' f' ≤ 3 + work w l s f
work-asked w l l' s s' f f' le le' le'' = let e = mul-le-mul_left (2 * w) le' in omega arith

pub work-sent : (w l l' s s' f f' : ℕ) → l' ≤ l → s' ≤ s + 1 → f' ≤ f → 0 + work w l' s' f' ≤ 2 * w + work w l s f
work-sent w l l' s s' f f' le le' le'' = let e = mul-le-mul_left (2 * w) le' in omega arith
