-- The low bits of a number.
use Rattle.std.proofs.Common.{◌≡◌, ℕ, zero, suc, ◌+◌, ◌*◌, ◌/◌, ◌%◌, ◌^◌, ◌<◌, Bool, ◌==◌, List, ◌∷◌, ◌++◌, length, bit_xor, refl, ap, ◌∙◌, arith}
use Rattle.std.proofs.lemmas.Nat.{xor_shr, xor_mod, field_of, mod-pow-add}
use Rattle.std.proofs.Math.Nat.{pow-suc}
use Rattle.check_words.specs.Division.{plus, added, zeros}
use Rattle.check_words.specs.CheckWords.{low_bits}

pub length-low_bits : (count n : ℕ) → length (low_bits count n) ≡ count
unfolding low_bits
length-low_bits zero n = refl
length-low_bits (suc count) n = ap suc (length-low_bits count (n / 2))

lowest_xor : (u v : ℕ) → u < 2 → v < 2 → (bit_xor u v == 1) ≡ plus (u == 1) (v == 1)
lowest_xor zero zero p q = refl
lowest_xor zero (suc zero) p q = refl
lowest_xor (suc zero) zero p q = refl
lowest_xor (suc zero) (suc zero) p q = refl
lowest_xor (suc (suc u)) v p q = absurd (omega arith)
lowest_xor zero (suc (suc v)) p q = absurd (omega arith)
lowest_xor (suc zero) (suc (suc v)) p q = absurd (omega arith)

pub low_bits-xor : (count a b : ℕ) → low_bits count (bit_xor a b) ≡ added (low_bits count a) (low_bits count b)
unfolding added low_bits
low_bits-xor zero a b = refl
low_bits-xor (suc count) a b =
    let lowest : (bit_xor a b % 2 == 1) ≡ plus (a % 2 == 1) (b % 2 == 1) = ap (λ (k : ℕ). k == 1) (xor_mod a b 1) ∙ lowest_xor (a % 2) (b % 2) (omega arith) (omega arith) in
    let halves : bit_xor a b / 2 ≡ bit_xor (a / 2) (b / 2) = xor_shr a b 1 in
    rw (lowest, halves, low_bits-xor count (a / 2) (b / 2)) refl

same_lowest : (u v : ℕ) → u < 2 → v < 2 → (u == 1) ≡ (v == 1) → u ≡ v
same_lowest zero zero p q e = refl
same_lowest zero (suc zero) p q e = absurd cc
same_lowest (suc zero) zero p q e = absurd cc
same_lowest (suc zero) (suc zero) p q e = refl
same_lowest (suc (suc u)) v p q e = absurd (omega arith)
same_lowest zero (suc (suc v)) p q e = absurd (omega arith)
same_lowest (suc zero) (suc (suc v)) p q e = absurd (omega arith)

heads_are : (a b : Bool) (xs ys : List Bool) → a ∷ xs ≡ b ∷ ys → (a ≡ b) × (xs ≡ ys)
heads_are a b xs ys e = (cc, cc)

-- two numbers with the same low bits are one, where they have no higher bits
pub low_bits-same : (count a b : ℕ) → a < 2 ^ count → b < 2 ^ count → low_bits count a ≡ low_bits count b → a ≡ b
unfolding low_bits
low_bits-same zero a b p q e = omega arith
low_bits-same (suc count) a b p q e =
    let h = heads_are (a % 2 == 1) (b % 2 == 1) (low_bits count (a / 2)) (low_bits count (b / 2)) e in
    let lowest : a % 2 ≡ b % 2 = same_lowest (a % 2) (b % 2) (omega arith) (omega arith) h.0 in
    let halves : a / 2 ≡ b / 2 = low_bits-same count (a / 2) (b / 2) (omega (arith, pow-suc 2 count)) (omega (arith, pow-suc 2 count)) h.1 in
    omega arith

pub low_bits-mod : (count n : ℕ) → low_bits count (n % 2 ^ count) ≡ low_bits count n
unfolding low_bits
low_bits-mod zero n = refl
low_bits-mod (suc count) n =
    let halves : n % 2 ^ (count + 1) / 2 ≡ n / 2 % 2 ^ count = field_of n count 1 in
    let parts : n % 2 ^ (count + 1) ≡ (n / 2 % 2 ^ count) * 2 + n % 2 = mod-pow-add n count 1 in
    let lowest : n % 2 ^ (count + 1) % 2 ≡ n % 2 = omega arith in
    let e : count + 1 ≡ suc count = omega arith in
    rw (← e, lowest, halves, low_bits-mod count (n / 2)) refl

-- the bits of a number of sixteen bits are those of its two octets
pub low_bits-halves : (n : ℕ) → low_bits 16 n ≡ low_bits 8 n ++ low_bits 8 (n / 256)
unfolding low_bits
low_bits-halves n =
    let e : n / 2 / 2 / 2 / 2 / 2 / 2 / 2 / 2 ≡ n / 256 = omega arith in
    ap (λ (k : ℕ). low_bits 8 n ++ low_bits 8 k) e

-- a number of one octet
pub low_bits-octet : (n : ℕ) → n < 256 → low_bits 16 n ≡ low_bits 8 n ++ zeros 8
unfolding low_bits
low_bits-octet n small =
    let e : n / 256 ≡ 0 = omega arith in
    low_bits-halves n ∙ ap (λ (k : ℕ). low_bits 8 n ++ low_bits 8 k) e
