-- Lists of unknown types: there is room for each, and lists join in any grouping.
use Rattle.std.proofs.Common.{◌≡◌, ℕ, zero, suc, ◌+◌, ◌<◌, ◌≤◌, Bool, true, false, eqb, ltb, List, [], ◌∷◌, ◌++◌, length, get_or, take, refl, sym, ap, ◌∙◌, arith, inl, inr}
use Rattle.std.specs.Prelude.{IsTrue}
use Rattle.std.specs.Cmp.{nat_eq_equiv}
use Rattle.std.specs.List.{list_any, list_all, IsDistinct, AllByRecursion}
use Rattle.std.proofs.lemmas.Bool.{eqb-true, eq-eqb, ltb-true, and_parts, and_from, or_cases, or_left, or_right, false_from_ne_true, both_ways, cases_eq, ne_eqb, cond-true, cond-false, cond_both, cases_Bool}
use Rattle.std.proofs.lemmas.List.{take_more, length_push}
use Rattle.std.proofs.lemmas.List.Folds.{list_any-append, list_all-append}
use Rattle.std.proofs.lemmas.Map.Keys.{IsDistinct-push}
use Rattle.std.proofs.lemmas.Map.Steps.{length-le_from_distinct_below}
use Rattle.l2cap_config.specs.Types.{is_unknown, contains, with_type, joined_types, AreUnknown}

-- ---- room

-- a known type is none of the unknown ones
known_apart : (k : ℕ) (xs : List ℕ) → is_unknown k ≡ false → list_all is_unknown xs ≡ true → AllByRecursion (λ y. eqb k y ≡ false) xs
known_apart k [] known all = tt
known_apart k (x ∷ xs) known all =
    let here = and_parts (is_unknown x) (list_all is_unknown xs) all in
    (false_from_ne_true (eqb k x) (λ same. both_ways (is_unknown k) known (ap is_unknown (eqb-true k x same) ∙ here.0)), known_apart k xs known here.1)

all_below : (xs : List ℕ) → list_all is_unknown xs ≡ true → list_all (λ x. ltb x 128) xs ≡ true
all_below [] all = refl
all_below (x ∷ xs) all =
    let here = and_parts (is_unknown x) (list_all is_unknown xs) all in
    and_from (ltb x 128) (list_all (λ x. ltb x 128) xs) (and_parts (ltb x 128) _ here.0).0 (all_below xs here.1)

member_below : (xs : List ℕ) (q : ℕ) → list_all (λ x. ltb x 128) xs ≡ true → list_any (eqb q) xs ≡ true → q < 128
member_below [] q all any = absurd cc
member_below (x ∷ xs) q all any =
    let here = and_parts (ltb x 128) (list_all (λ x. ltb x 128) xs) all in
    elim (or_cases (eqb q x) (list_any (eqb q) xs) any) [
      | inl same ↦ omega (arith, eqb-true q x same, ltb-true x 128 here.0)
      | inr more ↦ member_below xs q here.1 more
    ]

-- with the five known ones they are at most 128
pub room : (xs : List ℕ) → AreUnknown xs → length xs ≤ 123
unfolding IsDistinct
room xs unknown =
    let all = unknown.unknown in
    let known : List ℕ = 1 ∷ 2 ∷ 3 ∷ 4 ∷ 5 ∷ xs in
    let distinct : IsDistinct eqb known = (
      (refl, (refl, (refl, (refl, known_apart 1 xs refl all)))),
      (
        (refl, (refl, (refl, known_apart 2 xs refl all))),
        (
          (refl, (refl, known_apart 3 xs refl all)),
          (
            (refl, known_apart 4 xs refl all),
            (known_apart 5 xs refl all, unknown.distinct),
          ),
        ),
      ),
    ) in
    let most = length-le_from_distinct_below known 128 distinct (λ q any. member_below known q (all_below xs all) any) in
    omega arith

pub either_way : (x y : ℕ) → eqb x y ≡ eqb y x
either_way x y = elim (cases_eq x y) [
  | inl e ↦ eq-eqb x y e ∙ sym (eq-eqb y x (sym e))
  | inr ne ↦ ne_eqb x y ne ∙ sym (ne_eqb y x (λ e. ne (sym e)))
]

contains_is : (xs : List ℕ) (y : ℕ) → contains xs y ≡ list_any (eqb y) xs
contains_is [] y = refl
contains_is (x ∷ xs) y = rw (either_way x y, contains_is xs y) refl

pub unknown_push : (xs : List ℕ) (y : ℕ) → AreUnknown xs → IsTrue (is_unknown y) → contains xs y ≡ false → AreUnknown (xs ++ y ∷ [])
unknown_push xs y unknown this new =
    record {
      distinct = IsDistinct-push nat_eq_equiv xs y unknown.distinct (sym (contains_is xs y) ∙ new);
      unknown = list_all-append is_unknown xs (y ∷ []) ∙ and_from (list_all is_unknown xs) _ unknown.unknown (and_from (is_unknown y) true this refl);
    }

pub room_more : (xs : List ℕ) (y : ℕ) → AreUnknown xs → IsTrue (is_unknown y) → contains xs y ≡ false → length xs < 123
room_more xs y unknown this new = omega (arith, room (xs ++ y ∷ []) (unknown_push xs y unknown this new), length_push xs y)

-- what a test of the types says
pub not_among : (xs ys : List ℕ) (y : ℕ) (b : Bool) → ys ≡ xs → b ≡ contains ys y → b ≡ false → contains xs y ≡ false
not_among xs ys y b same tested absent = ap (λ (z : List ℕ). contains z y) (sym same) ∙ sym tested ∙ absent

pub unknown_none : AreUnknown []
unfolding IsDistinct
unknown_none = record { distinct = tt; unknown = refl }

pub unknown_at : (xs : List ℕ) (i : ℕ) (d : ℕ) → AreUnknown xs → i < length xs → is_unknown (get_or xs i d) ≡ true
unknown_at xs i d unknown lt = all_at xs i d unknown.unknown lt
  where
    all_at : (xs : List ℕ) (i : ℕ) (d : ℕ) → list_all is_unknown xs ≡ true → i < length xs → is_unknown (get_or xs i d) ≡ true
    all_at [] i d all lt = absurd (omega arith)
    all_at (x ∷ xs) zero d all lt = (and_parts (is_unknown x) (list_all is_unknown xs) all).0
    all_at (x ∷ xs) (suc i) d all lt = all_at xs i d (and_parts (is_unknown x) (list_all is_unknown xs) all).1 (omega arith)

-- ---- joining

pub joined-append : (a xs ys : List ℕ) → joined_types a (xs ++ ys) ≡ joined_types (joined_types a xs) ys
joined-append a [] ys = refl
joined-append a (x ∷ xs) ys = joined-append (with_type a x) xs ys

pub joined_more : (a xs : List ℕ) (i d : ℕ) → i < length xs → joined_types a (take (i + 1) xs) ≡ with_type (joined_types a (take i xs)) (get_or xs i d)
joined_more a xs i d lt = ap (joined_types a) (take_more xs i d lt) ∙ joined-append a (take i xs) (get_or xs i d ∷ [])

-- what was there stays
contains_after_one : (a : List ℕ) (x y : ℕ) → contains a y ≡ true → contains (with_type a x) y ≡ true
contains_after_one a x y in_a =
    let P : List ℕ → Type 0 = λ xs. contains xs y ≡ true in
    cond_both (contains a x) a (a ++ x ∷ []) P (λ _. in_a) (λ _. list_any-append (λ z. eqb z y) a (x ∷ []) ∙ or_left (contains a y) _ in_a)

contains_after : (a xs : List ℕ) (y : ℕ) → contains a y ≡ true → contains (joined_types a xs) y ≡ true
contains_after a [] y in_a = in_a
contains_after a (x ∷ xs) y in_a = contains_after (with_type a x) xs y (contains_after_one a x y in_a)

-- and what was joined is there
contains_it : (a : List ℕ) (y : ℕ) → contains (with_type a y) y ≡ true
contains_it a y =
    let P : List ℕ → Type 0 = λ xs. contains xs y ≡ true in
    cond_both (contains a y) a (a ++ y ∷ []) P (λ t. t) (λ _. list_any-append (λ z. eqb z y) a (y ∷ []) ∙ or_right (contains a y) _ (or_left (eqb y y) false (eq-eqb y y refl)))

contains_joined : (a xs : List ℕ) (y : ℕ) → contains xs y ≡ true → contains (joined_types a xs) y ≡ true
contains_joined a [] y none = absurd cc
contains_joined a (x ∷ xs) y some =
    elim (or_cases (eqb x y) (contains xs y) some) [
      | inl same ↦ contains_after (with_type a x) xs y (rw (eqb-true x y same) (contains_it a y))
      | inr more ↦ contains_joined (with_type a x) xs y more
    ]

one_joined : (a s : List ℕ) (y : ℕ) → joined_types a (with_type s y) ≡ with_type (joined_types a s) y
one_joined a s y =
    elim (cases_Bool (contains s y)) [
      | inl there ↦ ap (joined_types a) (cond-true (contains s y) s (s ++ y ∷ []) there) ∙ sym (cond-true (contains (joined_types a s) y) (joined_types a s) (joined_types a s ++ y ∷ []) (contains_joined a s y there))
      | inr new ↦ ap (joined_types a) (cond-false (contains s y) s (s ++ y ∷ []) new) ∙ joined-append a s (y ∷ [])
    ]

pub joined_assoc : (a s ys : List ℕ) → joined_types a (joined_types s ys) ≡ joined_types (joined_types a s) ys
joined_assoc a s [] = refl
joined_assoc a s (y ∷ ys) = joined_assoc a (with_type s y) ys ∙ ap (λ (x : List ℕ). joined_types x ys) (one_joined a s y)
