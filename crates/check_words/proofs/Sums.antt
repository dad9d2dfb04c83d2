-- Sums of lists of bits.
use Rattle.std.proofs.Common.{◌≡◌, ℕ, zero, suc, ◌<◌, ◌≤◌, Bool, true, false, List, [], ◌∷◌, ◌++◌, length, refl, sym, ap, ◌∙◌, arith}
use Rattle.check_words.specs.Division.{plus, added, zeros}

pub plus-false : (a : Bool) → plus a false ≡ a
plus-false true = refl
plus-false false = refl

pub plus-comm : (a b : Bool) → plus a b ≡ plus b a
plus-comm true true = refl
plus-comm true false = refl
plus-comm false true = refl
plus-comm false false = refl

pub plus-assoc : (a b c : Bool) → plus (plus a b) c ≡ plus a (plus b c)
plus-assoc true true true = refl
plus-assoc true true false = refl
plus-assoc true false c = refl
plus-assoc false b c = refl

pub plus-self : (a : Bool) → plus a a ≡ false
plus-self true = refl
plus-self false = refl

pub added-nil : (xs : List Bool) → added xs [] ≡ xs
unfolding added
added-nil [] = refl
added-nil (x ∷ xs) = refl

pub added-comm : (xs ys : List Bool) → added xs ys ≡ added ys xs
unfolding added
added-comm [] [] = refl
added-comm [] (y ∷ ys) = refl
added-comm (x ∷ xs) [] = refl
added-comm (x ∷ xs) (y ∷ ys) = rw (plus-comm x y, added-comm xs ys) refl

pub added-assoc : (xs ys zs : List Bool) → added (added xs ys) zs ≡ added xs (added ys zs)
unfolding added
added-assoc [] ys zs = refl
added-assoc (x ∷ xs) [] zs = refl
added-assoc (x ∷ xs) (y ∷ ys) [] = refl
added-assoc (x ∷ xs) (y ∷ ys) (z ∷ zs) = rw (plus-assoc x y z, added-assoc xs ys zs) refl

pub added-self : (xs : List Bool) → added xs xs ≡ zeros (length xs)
unfolding added
added-self [] = refl
added-self (x ∷ xs) = rw (plus-self x, added-self xs) refl

-- zeros change nothing of a list that is as long
pub zeros-added : (n : ℕ) (xs : List Bool) → n ≤ length xs → added (zeros n) xs ≡ xs
unfolding added
zeros-added zero xs le = refl
zeros-added (suc n) [] le = absurd (omega arith)
zeros-added (suc n) (x ∷ xs) le = ap (λ (ys : List Bool). x ∷ ys) (zeros-added n xs (omega arith))

pub added-left-comm : (xs ys zs : List Bool) → added xs (added ys zs) ≡ added ys (added xs zs)
added-left-comm xs ys zs = sym (added-assoc xs ys zs) ∙ ap (λ (w : List Bool). added w zs) (added-comm xs ys) ∙ added-assoc ys xs zs

pub added-twice : (xs ys zs : List Bool) → length xs ≤ length (added ys zs) → added (added xs ys) (added xs zs) ≡ added ys zs
added-twice xs ys zs le =
    added-assoc xs ys (added xs zs)
    ∙ ap (added xs) (added-left-comm ys xs zs)
    ∙ sym (added-assoc xs xs (added ys zs))
    ∙ ap (λ (w : List Bool). added w (added ys zs)) (added-self xs)
    ∙ zeros-added (length xs) (added ys zs) le

-- a list that is added to itself and to another one leaves the other one
pub added-cancels : (xs ys : List Bool) → length xs ≤ length ys → added xs (added xs ys) ≡ ys
added-cancels xs ys le = sym (added-assoc xs xs ys) ∙ ap (λ (w : List Bool). added w ys) (added-self xs) ∙ zeros-added (length xs) ys le

pub length-added : (xs ys : List Bool) → length xs ≤ length ys → length (added xs ys) ≡ length ys
unfolding added
length-added [] ys le = refl
length-added (x ∷ xs) [] le = absurd (omega arith)
length-added (x ∷ xs) (y ∷ ys) le = ap suc (length-added xs ys (omega arith))

-- a zero behind the shorter list is no change
pub added-padded : (xs ys : List Bool) → length xs < length ys → added (xs ++ false ∷ []) ys ≡ added xs ys
unfolding added
added-padded xs [] le = absurd (omega arith)
added-padded [] (y ∷ ys) le = refl
added-padded (x ∷ xs) (y ∷ ys) le = ap (λ (w : List Bool). plus x y ∷ w) (added-padded xs ys (omega arith))

-- lists of one length are added part by part
pub added-append : (xs ys us vs : List Bool) → length xs ≡ length ys → added (xs ++ us) (ys ++ vs) ≡ added xs ys ++ added us vs
unfolding added
added-append [] [] us vs e = refl
added-append [] (y ∷ ys) us vs e = absurd (omega arith)
added-append (x ∷ xs) [] us vs e = absurd (omega arith)
added-append (x ∷ xs) (y ∷ ys) us vs e = ap (λ (w : List Bool). plus x y ∷ w) (added-append xs ys us vs (omega arith))

-- a list that is not longer is added at the front
pub added-front : (xs ys vs : List Bool) → length xs ≤ length ys → added xs (ys ++ vs) ≡ added xs ys ++ vs
unfolding added
added-front [] ys vs e = refl
added-front (x ∷ xs) [] vs e = absurd (omega arith)
added-front (x ∷ xs) (y ∷ ys) vs e = ap (λ (w : List Bool). plus x y ∷ w) (added-front xs ys vs (omega arith))

pub plus-zero : (a b : Bool) → plus a b ≡ false → a ≡ b
plus-zero true true e = refl
plus-zero true false e = cc
plus-zero false true e = cc
plus-zero false false e = refl

heads_are : (a b : Bool) (xs ys : List Bool) → a ∷ xs ≡ b ∷ ys → (a ≡ b) × (xs ≡ ys)
heads_are a b xs ys e = (cc, cc)

-- a sum of zeros is one of equal lists
pub added-zero : (xs ys : List Bool) → length xs ≡ length ys → added xs ys ≡ zeros (length xs) → xs ≡ ys
unfolding added
added-zero [] [] same e = refl
added-zero [] (y ∷ ys) same e = absurd (omega arith)
added-zero (x ∷ xs) [] same e = absurd (omega arith)
added-zero (x ∷ xs) (y ∷ ys) same e =
    let h = heads_are (plus x y) false (added xs ys) (zeros (length xs)) e in
    rw (plus-zero x y h.0, added-zero xs ys (omega arith) h.1) refl
