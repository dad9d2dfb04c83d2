-- The unknown types are those that appear, each once.
use Rattle.std.proofs.Common.{◌≡◌, ℕ, Bool, true, false, cond, not, eqb, List, [], ◌∷◌, ◌++◌, refl, sym, ap, ◌∙◌, append_assoc, inl, inr}
use Rattle.std.specs.Prelude.{◌&&◌, ◌||◌, filter}
use Rattle.std.proofs.lemmas.Bool.{eqb-true, cases_Bool, cond-true, cond-false, not_from_true, not_from_false}
use Rattle.std.proofs.lemmas.List.{append-nil}
use Rattle.std.proofs.lemmas.List.Folds.{list_any-append}
use Rattle.l2cap_config.specs.Types.{contains, joined_types}
use Rattle.l2cap_config.specs.Laws.{once}
use Rattle.l2cap_config.proofs.TypeLists.{either_way}

filter_twice : (p q : ℕ → Bool) (xs : List ℕ) → filter p (filter q xs) ≡ filter (λ y. q y && p y) xs
filter_twice p q [] = refl
filter_twice p q (x ∷ xs) =
    elim (cases_Bool (q x)) [
      | inl kept ↦ rw kept (ap (λ (l : List ℕ). cond (p x) (x ∷ l) l) (filter_twice p q xs))
      | inr out ↦ rw out (filter_twice p q xs)
    ]

filter_same : (p q : ℕ → Bool) (xs : List ℕ) → ((y : ℕ) → p y ≡ q y) → filter p xs ≡ filter q xs
filter_same p q [] same = refl
filter_same p q (x ∷ xs) same =
    ap (λ (b : Bool). cond b (x ∷ filter p xs) (filter p xs)) (same x) ∙ ap (λ (l : List ℕ). cond (q x) (x ∷ l) l) (filter_same p q xs same)

neither : (c s : Bool) → not (c || (s || false)) ≡ (not s && not c)
neither true true = refl
neither true false = refl
neither false true = refl
neither false false = refl

-- a type that is there already takes nothing more away
taken : (a : List ℕ) (x y : ℕ) → contains a x ≡ true → (not (eqb y x) && not (contains a y)) ≡ not (contains a y)
taken a x y there =
    elim (cases_Bool (eqb y x)) [
      | inl same ↦
          let gone : not (contains a y) ≡ false = not_from_true (contains a y) (ap (contains a) (eqb-true y x same) ∙ there) in
          rw (same, gone) refl
      | inr other ↦ rw other refl
    ]

pub joined_once : (a xs : List ℕ) → joined_types a xs ≡ a ++ filter (λ y. not (contains a y)) (once xs)
joined_once a [] = sym (append-nil a)
joined_once a (x ∷ xs) =
    let absent : ℕ → Bool = λ y. not (contains a y) in
    let others : ℕ → Bool = λ y. not (eqb y x) in
    let rest : List ℕ = filter absent (filter others (once xs)) in
    elim (cases_Bool (contains a x)) [
      | inl there ↦
          ap (λ (l : List ℕ). joined_types l xs) (cond-true (contains a x) a (a ++ x ∷ []) there)
          ∙ joined_once a xs
          ∙ ap (λ (l : List ℕ). a ++ l) (sym (filter_twice absent others (once xs) ∙ filter_same (λ y. others y && absent y) absent (once xs) (λ y. taken a x y there)))
          ∙ ap (λ (l : List ℕ). a ++ l) (sym (cond-false (absent x) (x ∷ rest) rest (not_from_true (contains a x) there)))
      | inr new ↦
          let grown : List ℕ = a ++ x ∷ [] in
          let same : (y : ℕ) → not (contains grown y) ≡ (others y && absent y) =
          λ y. ap not (list_any-append (λ z. eqb z y) a (x ∷ [])) ∙ neither (contains a y) (eqb x y) ∙ ap (λ (b : Bool). not b && absent y) (either_way x y) in
          ap (λ (l : List ℕ). joined_types l xs) (cond-false (contains a x) a grown new)
          ∙ joined_once grown xs
          ∙ ap (λ (l : List ℕ). grown ++ l) (filter_same (λ y. not (contains grown y)) (λ y. others y && absent y) (once xs) same ∙ sym (filter_twice absent others (once xs)))
          ∙ append_assoc a (x ∷ []) rest
          ∙ ap (λ (l : List ℕ). a ++ l) (sym (cond-true (absent x) (x ∷ rest) rest (not_from_false (contains a x) new)))
    ]

every : (xs : List ℕ) → filter (λ y. not (contains [] y)) xs ≡ xs
every [] = refl
every (x ∷ xs) = ap (λ (l : List ℕ). x ∷ l) (every xs)

pub types_once : (xs : List ℕ) → joined_types [] xs ≡ once xs
types_once xs = joined_once [] xs ∙ every (once xs)
