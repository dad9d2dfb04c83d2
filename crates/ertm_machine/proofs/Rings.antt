-- Parts of a list that lies in two.
use Rattle.std.proofs.Common.{◌≡◌, ℕ, zero, suc, ◌+◌, ◌-◌, ◌≤◌, ◌<◌, min, List, [], ◌∷◌, ◌++◌, length, take, drop, refl, sym, ap, ◌∙◌, arith, length-drop, inl, inr}
use Rattle.std.proofs.lemmas.Bool.{cases_lt}
use Rattle.std.proofs.lemmas.List.{take_min, drop_all}
use native.Mathlib.Nat.{suc-sub-suc, zero-sub}

take-nil : {X : Type 0} (n : ℕ) → take {A = X} n [] ≡ []
take-nil zero = refl
take-nil (suc n) = refl

drop_both : {X : Type 0} (n : ℕ) (xs ys : List X) → drop n (xs ++ ys) ≡ drop n xs ++ drop (n - length xs) ys
drop_both zero xs ys = rw zero-sub refl
drop_both (suc n) [] ys = let e : suc n ≡ suc n - 0 = omega arith in ap (λ (k : ℕ). drop k ys) e
drop_both (suc n) (x ∷ xs) ys = rw suc-sub-suc (drop_both n xs ys)

take_both : {X : Type 0} (n : ℕ) (xs ys : List X) → take n (xs ++ ys) ≡ take n xs ++ take (n - length xs) ys
take_both zero xs ys = rw zero-sub refl
take_both (suc n) [] ys = let e : suc n ≡ suc n - 0 = omega arith in ap (λ (k : ℕ). take k ys) e
take_both {X} (suc n) (x ∷ xs) ys = rw suc-sub-suc (ap (λ (zs : List X). x ∷ zs) (take_both n xs ys))

module _ {X : Type 0} (front back all : List X) (place len start end : ℕ) (whole : front ++ back ≡ all)
    (from : start ≡ min place (length front)) (to : end ≡ min (place + len) (length front)) where
  in_front : take (end - start) (drop start front) ≡ take len (drop place front)
  in_front =
      elim (cases_lt (length front) place) [
        | inr within ↦
            let at : start ≡ place = omega arith in
            let count : end - start ≡ min len (length (drop place front)) = omega (arith, length-drop place front) in
            ap (λ (k : ℕ). take k (drop start front)) count ∙ ap (λ (k : ℕ). take (min len (length (drop place front))) (drop k front)) at ∙ take_min len (drop place front)
        | inl past ↦
            let none : end - start ≡ 0 = omega arith in
            ap (λ (k : ℕ). take k (drop start front)) none ∙ sym (ap (take len) (drop_all place front (omega arith)) ∙ take-nil len)
      ]

  in_back : take (place + len - end - (place - start)) (drop (place - start) back) ≡ take (len - length (drop place front)) (drop (place - length front) back)
  in_back =
      let size = length-drop place front in
      let count : place + len - end - (place - start) ≡ len - length (drop place front) = omega arith in
      let at : place - start ≡ place - length front = omega arith in
      ap (λ (k : ℕ). take k (drop (place - start) back)) count ∙ ap (λ (k : ℕ). take (len - length (drop place front)) (drop k back)) at

  -- the octets from a place on, of a ring that lies in two slices
  pub part_of : take (end - start) (drop start front) ++ take (place + len - end - (place - start)) (drop (place - start) back) ≡ take len (drop place all)
  part_of =
      ap (λ (xs : List X). xs ++ take (place + len - end - (place - start)) (drop (place - start) back)) in_front
      ∙ ap (λ (xs : List X). take len (drop place front) ++ xs) in_back
      ∙ sym (take_both len (drop place front) (drop (place - length front) back))
      ∙ ap (take len) (sym (drop_both place front back))
      ∙ ap (λ (xs : List X). take len (drop place xs)) whole
