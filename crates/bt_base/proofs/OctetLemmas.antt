-- Octets again from the number that they hold, and a number again from its octets.
use Rattle.std.proofs.Common.{◌≡◌, ℕ, ◌+◌, ◌*◌, ◌/◌, ◌%◌, ◌^◌, ◌<◌, ◌≤◌, List, [], ◌∷◌, ◌++◌, length, take, refl, sym, ap, ◌∙◌, arith}
use Rattle.bt_base.specs.Octets.{IsOctets, le16, be16, be32}
use Rattle.byteorder.specs.Endian.{little_number, big_number}
use Rattle.byteorder.specs.Numbers.{little_number-reads_back, big_number-reads_back}

pub le16-again : (a b : ℕ) (rest : List ℕ) → a < 256 → b < 256 → le16 (little_number 2 (a ∷ b ∷ rest)) ≡ a ∷ b ∷ []
le16-again a b rest low high =
    let first : (a + 256 * (b + 0)) % 256 ≡ a = omega arith in
    let second : (a + 256 * (b + 0)) / 256 % 256 ≡ b = omega arith in
    rw (first, second) refl

pub be16-again : (a b : ℕ) (rest : List ℕ) → a < 256 → b < 256 → be16 (big_number 2 (a ∷ b ∷ rest)) ≡ a ∷ b ∷ []
be16-again a b rest high low =
    let first : (a * 256 + (b * 1 + 0)) / 256 % 256 ≡ a = omega arith in
    let second : (a * 256 + (b * 1 + 0)) % 256 ≡ b = omega arith in
    rw (first, second) refl

pub be32-again : (a b c d : ℕ) (rest : List ℕ) → a < 256 → b < 256 → c < 256 → d < 256 → be32 (big_number 4 (a ∷ b ∷ c ∷ d ∷ rest)) ≡ a ∷ b ∷ c ∷ d ∷ []
be32-again a b c d rest p q r s =
    let n : ℕ = a * 16777216 + (b * 65536 + (c * 256 + (d * 1 + 0))) in
    let first : n / 16777216 % 256 ≡ a = omega arith in
    let second : n / 65536 % 256 ≡ b = omega arith in
    let third : n / 256 % 256 ≡ c = omega arith in
    let fourth : n % 256 ≡ d = omega arith in
    rw (first, second, third, fourth) refl

pub le16-front : (octets : List ℕ) → IsOctets octets → 2 ≤ length octets → le16 (little_number 2 octets) ≡ take 2 octets
le16-front [] fits long = absurd (omega arith)
le16-front (a ∷ []) fits long = absurd (omega arith)
le16-front (a ∷ b ∷ rest) fits long = le16-again a b rest (fits 0) (fits 1)

pub be16-front : (octets : List ℕ) → IsOctets octets → 2 ≤ length octets → be16 (big_number 2 octets) ≡ take 2 octets
be16-front [] fits long = absurd (omega arith)
be16-front (a ∷ []) fits long = absurd (omega arith)
be16-front (a ∷ b ∷ rest) fits long = be16-again a b rest (fits 0) (fits 1)

pub be32-front : (octets : List ℕ) → IsOctets octets → 4 ≤ length octets → be32 (big_number 4 octets) ≡ take 4 octets
be32-front [] fits long = absurd (omega arith)
be32-front (a ∷ []) fits long = absurd (omega arith)
be32-front (a ∷ b ∷ []) fits long = absurd (omega arith)
be32-front (a ∷ b ∷ c ∷ []) fits long = absurd (omega arith)
be32-front (a ∷ b ∷ c ∷ d ∷ rest) fits long = be32-again a b c d rest (fits 0) (fits 1) (fits 2) (fits 3)

-- a number again from its octets, whatever follows them
pub le16-number : (n : ℕ) (rest : List ℕ) → n < 2 ^ 16 → little_number 2 (le16 n ++ rest) ≡ n
le16-number n rest fits = little_number-reads_back 2 n rest fits

pub be16-number : (n : ℕ) (rest : List ℕ) → n < 2 ^ 16 → big_number 2 (be16 n ++ rest) ≡ n
be16-number n rest fits = big_number-reads_back 2 n rest fits

pub be32-number : (n : ℕ) (rest : List ℕ) → n < 2 ^ 32 → big_number 4 (be32 n ++ rest) ≡ n
be32-number n rest fits = big_number-reads_back 4 n rest fits

-- two numbers with the same octets are one
pub le16-same : (m n : ℕ) → m < 2 ^ 16 → n < 2 ^ 16 → le16 m ≡ le16 n → m ≡ n
le16-same m n fits-m fits-n same = sym (le16-number m [] fits-m) ∙ ap (λ (xs : List ℕ). little_number 2 (xs ++ [])) same ∙ le16-number n [] fits-n

pub be16-same : (m n : ℕ) → m < 2 ^ 16 → n < 2 ^ 16 → be16 m ≡ be16 n → m ≡ n
be16-same m n fits-m fits-n same = sym (be16-number m [] fits-m) ∙ ap (λ (xs : List ℕ). big_number 2 (xs ++ [])) same ∙ be16-number n [] fits-n

pub be32-same : (m n : ℕ) → m < 2 ^ 32 → n < 2 ^ 32 → be32 m ≡ be32 n → m ≡ n
be32-same m n fits-m fits-n same = sym (be32-number m [] fits-m) ∙ ap (λ (xs : List ℕ). big_number 4 (xs ++ [])) same ∙ be32-number n [] fits-n
