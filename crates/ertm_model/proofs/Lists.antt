-- Lists of segments, and what stands at a place.
use Rattle.std.proofs.Common.{ℕ, zero, suc, ◌≡◌, ◌+◌, ◌<◌, ◌≤◌, List, [], ◌∷◌, ◌++◌, length, drop, Some, None, refl, ap, arith}
use Rattle.std.specs.Prelude.{slice_get}
use Rattle.std.specs.List.{AllByRecursion}
use Rattle.ertm_frames.specs.Segments.{Segment}
use Rattle.ertm_model.specs.Value.{Kept}
use Rattle.ertm_model.specs.Giving.{given_again}
use Rattle.ertm_model.specs.Order.{kept_segments}

pub get-before : {X : Type 0} (xs ys : List X) (n : ℕ) (x : X) → slice_get xs n ≡ Some x → slice_get (xs ++ ys) n ≡ Some x
get-before [] ys n x e = cc
get-before (z ∷ xs) ys zero x e = e
get-before (z ∷ xs) ys (suc n) x e = get-before xs ys n x e

pub get-behind : {X : Type 0} (xs ys : List X) (k n : ℕ) → length xs + k ≡ n → slice_get (xs ++ ys) n ≡ slice_get ys k
get-behind [] ys k n e = let f : k ≡ n = omega arith in rw f refl
get-behind (z ∷ xs) ys k zero e = absurd (omega arith)
get-behind (z ∷ xs) ys k (suc n) e = get-behind xs ys k n (omega arith)

pub get-inside : {X : Type 0} (xs : List X) (n : ℕ) (x : X) → slice_get xs n ≡ Some x → n < length xs
get-inside [] n x e = cc
get-inside (z ∷ xs) zero x e = omega arith
get-inside (z ∷ xs) (suc n) x e = let h = get-inside xs n x e in omega arith

pub get-none : {X : Type 0} (xs : List X) (n : ℕ) → slice_get xs n ≡ None → length xs ≤ n
get-none [] n e = omega arith
get-none (z ∷ xs) zero e = cc
get-none (z ∷ xs) (suc n) e = let h = get-none xs n e in omega arith

-- what stands first
pub record Begins {X : Type 0} (x : X) (xs : List X) : Type 0 where
  pub rest : List X
  pub is : xs ≡ x ∷ rest

pub get-first : {X : Type 0} (xs : List X) (x : X) → slice_get xs 0 ≡ Some x → Begins x xs
get-first [] x e = cc
get-first (z ∷ xs) x e = record { rest = xs; is = cc }

pub all-of : {X : Type 0} (P : X → Type 0) (xs ys : List X) → AllByRecursion P (xs ++ ys) → AllByRecursion P ys
all-of P [] ys all = all
all-of P (x ∷ xs) ys all = all-of P xs ys all.1

pub all-both : {X : Type 0} (P : X → Type 0) (xs ys : List X) → AllByRecursion P xs → AllByRecursion P ys → AllByRecursion P (xs ++ ys)
all-both P [] ys first second = second
all-both P (x ∷ xs) ys first second = (first.0, all-both P xs ys first.1 second)

pub segments-length : (kept : List Kept) → length (kept_segments kept) ≡ length kept
segments-length [] = refl
segments-length (k ∷ kept) = ap suc (segments-length kept)

pub segment-at : (kept : List Kept) (n : ℕ) (k : Kept) → slice_get kept n ≡ Some k → slice_get (kept_segments kept) n ≡ Some k.segment
segment-at [] n k e = cc
segment-at (z ∷ kept) zero k e = let f : z ≡ k = cc in rw f refl
segment-at (z ∷ kept) (suc n) k e = segment-at kept n k e

pub again-segments : (n : ℕ) (kept : List Kept) → kept_segments (given_again n kept) ≡ kept_segments kept
again-segments n [] = refl
again-segments zero (k ∷ kept) = refl
again-segments (suc n) (k ∷ kept) = ap (λ (l : List Segment). k.segment ∷ l) (again-segments n kept)

pub again-length : (n : ℕ) (kept : List Kept) → length (given_again n kept) ≡ length kept
again-length n [] = refl
again-length zero (k ∷ kept) = refl
again-length (suc n) (k ∷ kept) = ap suc (again-length n kept)

pub segments-more : (kept : List Kept) (k : Kept) → kept_segments (kept ++ k ∷ []) ≡ kept_segments kept ++ k.segment ∷ []
segments-more [] k = refl
segments-more (z ∷ kept) k = ap (λ (l : List Segment). z.segment ∷ l) (segments-more kept k)

-- what goes where the first k are acknowledged
pub record Dropped (k : ℕ) (kept : List Kept) : Type 0 where
  pub gone : List Segment
  pub gone_length : length gone ≡ k
  pub is : kept_segments kept ≡ gone ++ kept_segments (drop k kept)
  pub left_length : length (drop k kept) + k ≡ length kept

pub dropped : (k : ℕ) (kept : List Kept) → k ≤ length kept → Dropped k kept
dropped zero kept h = record { gone = []; gone_length = refl; is = refl; left_length = omega arith }
dropped (suc k) [] h = absurd (omega arith)
dropped (suc k) (z ∷ kept) h =
    let d = dropped k kept (omega arith) in
    record { gone = z.segment ∷ d.gone; gone_length = ap suc d.gone_length; is = ap (λ (l : List Segment). z.segment ∷ l) d.is; left_length = let e = d.left_length in omega arith }
