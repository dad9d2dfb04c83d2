-- Lists of numbers of one length that fall, the first place first, come to an end.
use Rattle.std.proofs.Common.{◌≡◌, ◌⊎◌, ℕ, zero, suc, ◌<◌, List, [], ◌∷◌, length, inl, inr, sym, subst, arith}

abbrev pub IsBelow : List ℕ → List ℕ → Type 0
IsBelow [] ys = ⊥
IsBelow (x ∷ xs) [] = ⊥
IsBelow (x ∷ xs) (y ∷ ys) = (x < y) ⊎ ((x ≡ y) × IsBelow xs ys)

-- it holds of a list if it holds of all below
abbrev pub Step : (List ℕ → Type 0) → ℕ → Type 0
Step P n = (xs : List ℕ) → length xs ≡ n → ((ys : List ℕ) → length ys ≡ n → IsBelow ys xs → P ys) → P xs

none_below : (ys xs : List ℕ) → length ys ≡ 0 → IsBelow ys xs → ⊥
none_below [] xs none below = below
none_below (y ∷ ys) xs none below = absurd (omega arith)

under : (m : ℕ) (P : List ℕ → Type 0) (x : ℕ) (xs ys : List ℕ) → length ys ≡ suc m → IsBelow ys (x ∷ xs) → ((y : ℕ) → y < x → (tail : List ℕ) → length tail ≡ m → P (y ∷ tail))
    → ((tail : List ℕ) → length tail ≡ m → IsBelow tail xs → P (x ∷ tail)) → P ys
under m P x xs [] long below first rest = absurd below
under m P x xs (y ∷ ys) long below first rest = elim below [ inl less ↦ first y less ys (omega arith) | inr same ↦ subst (λ (z : ℕ). P (z ∷ ys)) (sym same.0) (rest ys (omega arith) same.1) ]

heads : (m : ℕ) → ((Q : List ℕ → Type 0) → Step Q m → (xs : List ℕ) → length xs ≡ m → Q xs) → (P : List ℕ → Type 0) → Step P (suc m) → (k x : ℕ) → x < k → (tail : List ℕ) → length tail ≡ m → P (x ∷ tail)
heads m tails P step zero x less tail long = absurd (omega arith)
heads m tails P step (suc k) x less tail long =
    tails (λ (l : List ℕ). P (x ∷ l))
    (λ xs longs lower. step (x ∷ xs) (omega arith) (λ ys longer below. under m P x xs ys longer below (λ y fewer rest short. heads m tails P step k y (omega arith) rest short) lower)) tail long

pub falls : (n : ℕ) (P : List ℕ → Type 0) → Step P n → (xs : List ℕ) → length xs ≡ n → P xs
falls zero P step xs long = step xs long (λ ys short below. absurd (none_below ys xs short below))
falls (suc m) P step [] long = absurd (omega arith)
falls (suc m) P step (x ∷ xs) long = heads m (λ Q inner. falls m Q inner) P step (suc x) x (omega arith) xs (omega arith)
