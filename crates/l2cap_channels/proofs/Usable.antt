-- What is known of the commands that come out of a payload.
use Rattle.std.proofs.Common.{◌≡◌, ℕ, zero, suc, ◌+◌, ◌*◌, ◌≤◌, ◌⊎◌, Bool, true, false, cond, List, [], ◌∷◌, length, take, drop, inl, inr, refl, arith, length-drop, length-take}
use Rattle.std.specs.Prelude.{◌==◌, ◌||◌, Option, Some, None, slice_index, nat_lt}
use Rattle.std.specs.List.{AllByRecursion}
use Rattle.std.proofs.lemmas.Bool.{ltb-false, eqb-false}
use Rattle.l2cap_signal.specs.Commands.{Content, rest_of}
use Rattle.l2cap_signal.specs.Reading.{Answer, word_at, content_of, exactly, at_least, read_as, judged, first, answers_within, answers}
use Rattle.l2cap_channels.specs.Usable.{IsUsable}

-- what holds on both ways holds behind a test
either : {X : Type 0} (P : X → Type 0) (b : Bool) (x y : X) → P x → (b ≡ false → P y) → P (cond b x y)
either P true x y p q = p
either P false x y p q = q refl

-- ---- a command has no more octets than its payload

abbrev IsShort : ℕ → Option Content → Type 0
IsShort n None = Unit {0}
IsShort n (Some what) = length (rest_of what) ≤ n

short_exactly : (size : ℕ) (p : List ℕ) (what : Content) → rest_of what ≡ [] → IsShort (length p) (exactly size p what)
short_exactly size p what none =
    let P : Option Content → Type 0 = IsShort (length p) in
    either P (length p == size) (Some what) None (rw none (omega arith)) (λ _. tt)

short_at_least : (size k : ℕ) (p : List ℕ) (what : Content) → rest_of what ≡ drop k p → IsShort (length p) (at_least size p what)
short_at_least size k p what is =
    let P : Option Content → Type 0 = IsShort (length p) in
    either P (nat_lt (length p) size) None (Some what) tt (λ _. rw is (omega (arith, length-drop k p)))

pub content_short : (code : ℕ) (p : List ℕ) → IsShort (length p) (content_of code p)
content_short code p =
    let P : Option Content → Type 0 = IsShort (length p) in
    either P (code == 1) _ _ (short_at_least 2 2 p _ refl) (λ _.
    either P (code == 2) _ _ (short_exactly 4 p _ refl) (λ _.
    either P (code == 3) _ _ (short_exactly 8 p _ refl) (λ _.
    either P (code == 4) _ _ (short_at_least 4 4 p _ refl) (λ _.
    either P (code == 5) _ _ (short_at_least 6 6 p _ refl) (λ _.
    either P (code == 6) _ _ (short_exactly 4 p _ refl) (λ _.
    either P (code == 7) _ _ (short_exactly 4 p _ refl) (λ _.
    either P (code == 8) _ _ (omega arith) (λ _.
    either P (code == 9) _ _ (omega arith) (λ _.
    either P (code == 10) _ _ (short_exactly 2 p _ refl) (λ _.
    short_at_least 4 4 p _ refl))))))))))

-- ---- it is usable

read_usable : (code identifier : ℕ) (p : List ℕ) (read : Option Content) → 1 ≤ identifier → length p ≤ 668 → IsShort (length p) read → IsUsable (read_as code identifier read)
read_usable code identifier p None some fits short = tt
read_usable code identifier p (Some what) some fits short = (some, omega arith)

judged_usable : (code identifier : ℕ) (p : List ℕ) → length p ≤ 668 → IsUsable (judged code identifier p)
judged_usable code identifier p fits =
    either IsUsable (identifier == 0) _ _ tt (λ above.
    either IsUsable ((code == 0) || nat_lt 11 code) _ _ tt (λ _.
    read_usable code identifier p (content_of code p) (omega (arith, eqb-false identifier 0 above)) fits (content_short code p)))

-- what is at the front of octets is usable, and leaves nothing or at least four octets less
abbrev IsFront : List ℕ → Answer × List ℕ → Type 0
IsFront octets (found, rest) = IsUsable found × ((rest ≡ []) ⊎ (length rest + 4 ≤ length octets))

front : (octets : List ℕ) → IsFront octets (first octets)
unfolding first
front octets =
    let P : Answer × List ℕ → Type 0 = IsFront octets in
    either P (nat_lt 672 (length octets)) _ _ (tt, inl refl) (λ few.
    either P (nat_lt (length octets) 4) _ _ (tt, inl refl) (λ some.
    either P (nat_lt (length (drop 4 octets)) (word_at 2 octets)) _ _ (tt, inl refl) (λ _. (
      judged_usable (slice_index octets 0) (slice_index octets 1) (take (word_at 2 octets) (drop 4 octets)) (omega (arith, length-take (word_at 2 octets) (drop 4 octets), length-drop 4 octets, ltb-false 672 (length octets) few)),
      inr (omega (arith, length-drop (word_at 2 octets) (drop 4 octets), length-drop 4 octets, ltb-false (length octets) 4 some)),
    ))))

within_usable : (steps : ℕ) (octets : List ℕ) → AllByRecursion IsUsable (answers_within steps octets)
unfolding answers_within
within_usable zero [] = tt
within_usable (suc steps) [] = tt
within_usable zero (o ∷ octets) = tt
within_usable (suc steps) (o ∷ octets) = ((front (o ∷ octets)).0, within_usable steps (first (o ∷ octets)).1)

pub all_usable : (octets : List ℕ) → AllByRecursion IsUsable (answers octets)
unfolding answers
all_usable octets = within_usable (length octets) octets

-- ---- there are at most 168

nothing_within : (steps : ℕ) (octets : List ℕ) → octets ≡ [] → length (answers_within steps octets) ≡ 0
unfolding answers_within
nothing_within zero [] none = refl
nothing_within (suc steps) [] none = refl
nothing_within steps (o ∷ octets) none = cc

few_within : (steps : ℕ) (octets : List ℕ) → 4 * length (answers_within steps octets) ≤ length octets + 3
unfolding answers_within
few_within zero [] = omega arith
few_within (suc steps) [] = omega arith
few_within zero (o ∷ octets) = omega arith
few_within (suc steps) (o ∷ octets) =
    let rest = (first (o ∷ octets)).1 in
    let behind = few_within steps rest in
    elim (front (o ∷ octets)).1 [
      | inl none ↦ omega (arith, nothing_within steps rest none)
      | inr less ↦ omega arith
    ]

-- a payload above 672 octets gets one answer
first_above : (octets : List ℕ) → nat_lt 672 (length octets) ≡ true → (first octets).1 ≡ []
unfolding first
first_above octets above = rw above refl

few_by : (octets : List ℕ) (b : Bool) → nat_lt 672 (length octets) ≡ b → length (answers octets) ≤ 168
unfolding answers answers_within
few_by [] b is = omega arith
few_by (o ∷ octets) true is = omega (arith, nothing_within (length octets) (first (o ∷ octets)).1 (first_above (o ∷ octets) is))
few_by (o ∷ octets) false is = omega (arith, few_within (length (o ∷ octets)) (o ∷ octets), ltb-false 672 (length (o ∷ octets)) is)

pub few_answers : (octets : List ℕ) → length (answers octets) ≤ 168
few_answers octets = few_by octets (nat_lt 672 (length octets)) refl
