-- How readers go over requests.
use Rattle.std.proofs.Common.{◌≡◌, List, [], ◌∷◌, reverse, Bool, true, false, ◌||◌, refl, ap, ◌∙◌}
use Rattle.std.specs.List.{list_any}
use Rattle.std.proofs.lemmas.List.{reverse-append}
use Rattle.std.proofs.lemmas.List.Folds.{list_any-append}

-- the latest of a list passes
abbrev pub runs_at : {X : Type 0} → (X → Bool) → List X → Bool
runs_at passes [] = false
runs_at passes (x ∷ before) = passes x

or_swap : (a b : Bool) → (a || (b || false)) ≡ (b || a)
or_swap true true = refl
or_swap true false = refl
or_swap false true = refl
or_swap false false = refl

pub any_reverse : {X : Type 0} (passes : X → Bool) (xs : List X) → list_any passes (reverse xs) ≡ list_any passes xs
any_reverse passes [] = refl
any_reverse passes (x ∷ xs) =
    ap (list_any passes) (reverse-append (x ∷ []) xs)
    ∙ (list_any-append passes (reverse xs) (x ∷ [])
    ∙ (ap (λ b. b || (passes x || false)) (any_reverse passes xs) ∙ or_swap (list_any passes xs) (passes x)))
