-- Lists of a few cells.
use Rattle.std.proofs.Common.{◌≡◌, ℕ, List, [], ◌∷◌, length, get_or, refl, arith}

-- what holds of any six cells holds of a list of six
pub of_six : (P : List ℕ → Type 0) → ((a b c d e f : ℕ) → P (a ∷ b ∷ c ∷ d ∷ e ∷ f ∷ [])) → (xs : List ℕ) → length xs ≡ 6 → P xs
of_six P cells (a ∷ b ∷ c ∷ d ∷ e ∷ f ∷ []) six = cells a b c d e f
of_six P cells _ six = absurd (omega arith)

-- the cells of a list of six, as a pattern of six reads them
pub six_cells : (xs : List ℕ) → length xs ≡ 6
    → get_or xs 0 0 ∷ get_or xs 1 0 ∷ get_or xs 2 0 ∷ get_or xs 3 0 ∷ get_or xs 4 0 ∷ get_or xs 5 0 ∷ [] ≡ xs
six_cells xs six = of_six (λ (ys : List ℕ). get_or ys 0 0 ∷ get_or ys 1 0 ∷ get_or ys 2 0 ∷ get_or ys 3 0 ∷ get_or ys 4 0 ∷ get_or ys 5 0 ∷ [] ≡ ys) (λ a b c d e f. refl) xs six
