-- Each value of the table is the check word of its octet.
use Rattle.std.proofs.Common.{◌≡◌, ℕ, ◌<◌, Bool, true, false, ◌&&◌, List, [], ◌∷◌, get_or, refl}
use Rattle.std.proofs.Math.Bool.{beq}
use Rattle.std.proofs.lemmas.Bool.{and_parts, agree_below, agree_below_at}
use Rattle.check_words.specs.Division.{added, reduced, divided}
use Rattle.check_words.specs.CheckWords.{low_bits, l2cap_check}
use Rattle.check_words.specs.declared.table.TheConstants.{CHECK_WORDS}

unfoldable pub same_bits : List Bool → List Bool → Bool
same_bits [] [] = true
same_bits [] (y ∷ ys) = false
same_bits (x ∷ xs) [] = false
same_bits (x ∷ xs) (y ∷ ys) = beq x y && same_bits xs ys

beq-true : (x y : Bool) → beq x y ≡ true → x ≡ y
beq-true true true e = refl
beq-true true false e = absurd cc
beq-true false true e = absurd cc
beq-true false false e = refl

pub same_bits-true : (xs ys : List Bool) → same_bits xs ys ≡ true → xs ≡ ys
unfolding same_bits
same_bits-true [] [] e = refl
same_bits-true [] (y ∷ ys) e = absurd cc
same_bits-true (x ∷ xs) [] e = absurd cc
same_bits-true (x ∷ xs) (y ∷ ys) e =
    let both = and_parts (beq x y) (same_bits xs ys) e in
    rw (beq-true x y both.0, same_bits-true xs ys both.1) refl

is_right : ℕ → Bool
is_right octet = same_bits (low_bits 16 (get_or CHECK_WORDS octet 0)) (l2cap_check (octet ∷ []))

all_right : agree_below is_right (λ k. true) 256 ≡ true
unfolding is_right same_bits added reduced divided low_bits
all_right = refl

pub table_is : (octet : ℕ) → octet < 256 → low_bits 16 (get_or CHECK_WORDS octet 0) ≡ l2cap_check (octet ∷ [])
unfolding is_right
table_is octet small = same_bits-true (low_bits 16 (get_or CHECK_WORDS octet 0)) (l2cap_check (octet ∷ [])) (agree_below_at is_right (λ k. true) 256 octet all_right small)
