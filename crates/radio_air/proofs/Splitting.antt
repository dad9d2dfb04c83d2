-- Octets cut into frames of given lengths.
use Rattle.std.proofs.Common.{◌≡◌, ℕ, zero, suc, ◌+◌, ◌-◌, ◌≤◌, ◌<◌, min, List, [], ◌∷◌, ◌++◌, length, take, drop, refl, sym, ap, ap₂, ◌∙◌, arith, length-append, length-take, length-drop}
use Rattle.std.specs.Prelude.{slice_set, slice_get, Option, Some, None}
use Rattle.std.proofs.lemmas.List.{take-append-le, drop-append-le, take-take, drop-drop, drop-set-lt, drop-take}
use Rattle.std.proofs.Math.Seq.{take-set-lt}
use Rattle.acl_fragments.specs.Pieces.{joined}
use Rattle.radio_air.specs.Rings.{total, split, with_first}

pub split-append : (lengths octets more : List ℕ) → total lengths ≤ length octets → split lengths (octets ++ more) ≡ split lengths octets
split-append [] octets more fits = refl
split-append (n ∷ lengths) octets more fits =
    ap₂ (λ x xs. x ∷ xs) (take-append-le n octets more (omega arith))
    (ap (λ rest. split lengths rest) (drop-append-le n octets more (omega arith)) ∙ split-append lengths (drop n octets) more (omega (arith, length-drop n octets)))

-- a frame more is the octets behind the others
pub split-more : (lengths : List ℕ) (n : ℕ) (octets : List ℕ) → split (lengths ++ n ∷ []) octets ≡ split lengths octets ++ take n (drop (total lengths) octets) ∷ []
split-more [] n octets = refl
split-more (m ∷ lengths) n octets =
    ap (λ xs. take m octets ∷ xs) (split-more lengths n (drop m octets) ∙ ap (λ xs. split lengths (drop m octets) ++ take n xs ∷ []) (drop-drop (total lengths) m octets))

-- what stands behind the frames is no matter
pub split-take : (lengths : List ℕ) (n : ℕ) (octets : List ℕ) → total lengths ≤ n → split lengths (take n octets) ≡ split lengths octets
split-take [] n octets fits = refl
split-take (m ∷ lengths) n octets fits =
    let whole : n ≡ m + (n - m) = omega arith in
    let rest : drop m (take n octets) ≡ take (n - m) (drop m octets) = ap (λ k. drop m (take k octets)) whole ∙ drop-take m (n - m) octets in
    ap₂ (λ x xs. x ∷ xs) (take-take m n octets (omega arith)) (ap (λ xs. split lengths xs) rest ∙ split-take lengths (n - m) (drop m octets) (omega arith))

-- the first frames leave with their octets
pub split-drop : (k : ℕ) (lengths octets : List ℕ) → split (drop k lengths) (drop (total (take k lengths)) octets) ≡ drop k (split lengths octets)
split-drop zero lengths octets = refl
split-drop (suc k) [] octets = refl
split-drop (suc k) (n ∷ lengths) octets =
    ap (λ xs. split (drop k lengths) xs) (sym (drop-drop (total (take k lengths)) n octets)) ∙ split-drop k lengths (drop n octets)

pub length-split : (lengths octets : List ℕ) → length (split lengths octets) ≡ length lengths
length-split [] octets = refl
length-split (n ∷ lengths) octets = ap suc (length-split lengths (drop n octets))

pub joined-split : (lengths octets : List ℕ) → total lengths ≤ length octets → length (joined (split lengths octets)) ≡ total lengths
joined-split [] octets fits = refl
joined-split (n ∷ lengths) octets fits =
    let rest = joined-split lengths (drop n octets) (omega (arith, length-drop n octets)) in
    omega (arith, rest, length-append (take n octets) (joined (split lengths (drop n octets))), length-take n octets)

-- an octet of the first frame is another one
pub split-set : (n at value : ℕ) (lengths octets : List ℕ) → at < n
    → split (n ∷ lengths) (slice_set octets at value) ≡ with_first (slice_set (take n octets) at value) (split (n ∷ lengths) octets)
split-set n at value lengths octets within =
    ap₂ (λ x xs. x ∷ xs) (take-set-lt n octets at value within) (ap (λ xs. split lengths xs) (drop-set-lt n octets at value within))

-- ---- lengths that are taken one after the other

pub total_more : (lengths : List ℕ) (k n : ℕ) (rest : List ℕ) → drop k lengths ≡ n ∷ rest
    → (total (take (suc k) lengths) ≡ total (take k lengths) + n) × (drop (suc k) lengths ≡ rest) × (total (take k lengths) + n ≤ total lengths)
total_more [] zero n rest is = cc
total_more [] (suc k) n rest is = cc
total_more (m ∷ lengths) zero n rest is =
    let first : m ≡ n = cc in
    let others : lengths ≡ rest = cc in
    (omega arith, others, omega arith)
total_more (m ∷ lengths) (suc k) n rest is =
    let later = total_more lengths k n rest is in
    (omega (arith, later.0), later.1, omega (arith, later.2))

pub total_append : (lengths : List ℕ) (n : ℕ) → total (lengths ++ n ∷ []) ≡ total lengths + n
total_append [] n = omega arith
total_append (m ∷ lengths) n = let rest = total_append lengths n in omega arith

pub total_split : (k : ℕ) (lengths : List ℕ) → total (take k lengths) + total (drop k lengths) ≡ total lengths
total_split zero lengths = omega arith
total_split (suc k) [] = refl
total_split (suc k) (n ∷ lengths) = let rest = total_split k lengths in omega arith

-- the first of those that are left
pub popped : (lengths now : List ℕ) (k n : ℕ) → now ≡ drop k lengths → slice_get now 0 ≡ Some n → drop k lengths ≡ n ∷ drop 1 now
popped lengths [] k n is first = cc
popped lengths (m ∷ now) k n is first = let same : m ≡ n = cc in sym is ∙ ap (λ x. x ∷ now) same

-- the length at a place, added to those before it
pub total_at : (lengths : List ℕ) (k n : ℕ) → slice_get lengths k ≡ Some n → (total (take (suc k) lengths) ≡ total (take k lengths) + n) × (total (take k lengths) + n ≤ total lengths)
total_at [] zero n is = cc
total_at [] (suc k) n is = cc
total_at (m ∷ lengths) zero n is = let first : m ≡ n = cc in (omega (arith, first), omega (arith, first))
total_at (m ∷ lengths) (suc k) n is = let later = total_at lengths k n is in (omega (arith, later.0), omega (arith, later.1))

-- the frame at a place
pub split_at : (lengths octets : List ℕ) (k n : ℕ) → slice_get lengths k ≡ Some n → slice_get (split lengths octets) k ≡ Some (take n (drop (total (take k lengths)) octets))
split_at [] octets zero n is = cc
split_at [] octets (suc k) n is = cc
split_at (m ∷ lengths) octets zero n is = let first : m ≡ n = cc in ap (λ (k : ℕ). Some (take k octets)) first
split_at (m ∷ lengths) octets (suc k) n is = split_at lengths (drop m octets) k n is ∙ ap (λ (xs : List ℕ). Some (take n xs)) (drop-drop (total (take k lengths)) m octets)

pub split_past : (lengths octets : List ℕ) (k : ℕ) → slice_get lengths k ≡ None → slice_get (split lengths octets) k ≡ None
split_past [] octets zero is = refl
split_past [] octets (suc k) is = refl
split_past (m ∷ lengths) octets zero is = cc
split_past (m ∷ lengths) octets (suc k) is = split_past lengths (drop m octets) k is

pub first_left : (frames : List (List ℕ)) (k : ℕ) → slice_get (drop k frames) 0 ≡ slice_get frames k
first_left frames zero = refl
first_left [] (suc k) = refl
first_left (frame ∷ frames) (suc k) = first_left frames k
