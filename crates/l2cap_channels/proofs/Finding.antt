-- The first item of which a test holds.
use Rattle.std.proofs.Common.{◌≡◌, ◌∙◌, ℕ, zero, suc, Bool, true, false, List, [], ◌∷◌, map, take, refl, sym, ap}
use Rattle.std.specs.List.{find, fold}
use Rattle.std.specs.Prelude.{max, slice_get, Option, Some, None, cond}

pub found : {X : Type 0} (test : X → Bool) (x : X) (rest : Option X) (b : Bool) → test x ≡ b → b ≡ true → cond (test x) (Some x) rest ≡ Some x
found test x rest b is holds = rw (is ∙ holds) refl

pub passed : {X : Type 0} (test : X → Bool) (x : X) (rest : Option X) → test x ≡ false → cond (test x) (Some x) rest ≡ rest
passed test x rest fails = rw fails refl

pub fails_at : {X : Type 0} (test : X → Bool) (x : X) (rest : Option X) → cond (test x) (Some x) rest ≡ None → test x ≡ false
fails_at test x rest none = fails_by (test x) refl
  where
    fails_by : (b : Bool) → test x ≡ b → test x ≡ false
    fails_by false is = is
    fails_by true is = let e : Some x ≡ None = sym (rw is refl) ∙ none in cc

pub found_at : {X : Type 0} (test : X → Bool) (xs : List X) (k : ℕ) (x : X) → find test (take k xs) ≡ None → slice_get xs k ≡ Some x → test x ≡ true → find test xs ≡ Some x
found_at test [] k x none is holds = cc
found_at test (y ∷ xs) zero x none is holds =
    let e : y ≡ x = cc in
    let h : test y ≡ true = ap test e ∙ holds in
    found test y (find test xs) true h refl ∙ ap Some e
found_at test (y ∷ xs) (suc k) x none is holds =
    let fails = fails_at test y (find test (take k xs)) none in
    passed test y (find test xs) fails ∙ found_at test xs k x (sym (passed test y (find test (take k xs)) fails) ∙ none) is holds

pub none_more : {X : Type 0} (test : X → Bool) (xs : List X) (k : ℕ) (x : X) → find test (take k xs) ≡ None → slice_get xs k ≡ Some x → test x ≡ false → find test (take (suc k) xs) ≡ None
none_more test [] k x none is fails = refl
none_more test (y ∷ xs) zero x none is fails = let e : y ≡ x = cc in passed test y None (ap test e ∙ fails)
none_more test (y ∷ xs) (suc k) x none is fails =
    let first = fails_at test y (find test (take k xs)) none in
    passed test y (find test (take (suc k) xs)) first ∙ none_more test xs k x (sym (passed test y (find test (take k xs)) first) ∙ none) is fails

pub fold_more : {X : Type 0} (f : X → ℕ) (xs : List X) (k : ℕ) (x : X) (first : ℕ) → slice_get xs k ≡ Some x → fold max first (map f (take (suc k) xs)) ≡ max (fold max first (map f (take k xs))) (f x)
fold_more f [] k x first is = cc
fold_more f (y ∷ xs) zero x first is = let e : y ≡ x = cc in ap (λ z. max first (f z)) e
fold_more f (y ∷ xs) (suc k) x first is = fold_more f xs k x (max first (f y)) is
