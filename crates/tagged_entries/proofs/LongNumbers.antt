-- Eight octets and their number.
use Rattle.std.proofs.Common.{◌≡◌, ℕ, ◌+◌, ◌*◌, ◌/◌, ◌%◌, ◌^◌, ◌<◌, ◌≤◌, List, [], ◌∷◌, length, take, refl, arith}
use Rattle.byteorder.specs.Endian.{big_bytes, big_number}
use Rattle.bt_base.specs.Octets.{IsOctets}

-- eight octets again from their number
long_again : (a b c d e f g h : ℕ) (rest : List ℕ) → a < 256 → b < 256 → c < 256 → d < 256 → e < 256 → f < 256 → g < 256 → h < 256
    → big_bytes 8 (big_number 8 (a ∷ b ∷ c ∷ d ∷ e ∷ f ∷ g ∷ h ∷ rest)) ≡ a ∷ b ∷ c ∷ d ∷ e ∷ f ∷ g ∷ h ∷ []
long_again a b c d e f g h rest p q r s t u v w =
    let n : ℕ = a * 72057594037927936 + (b * 281474976710656 + (c * 1099511627776 + (d * 4294967296 + (e * 16777216 + (f * 65536 + (g * 256 + (h * 1 + 0))))))) in
    let o1 : n / 72057594037927936 % 256 ≡ a = omega arith in
    let o2 : n / 281474976710656 % 256 ≡ b = omega arith in
    let o3 : n / 1099511627776 % 256 ≡ c = omega arith in
    let o4 : n / 4294967296 % 256 ≡ d = omega arith in
    let o5 : n / 16777216 % 256 ≡ e = omega arith in
    let o6 : n / 65536 % 256 ≡ f = omega arith in
    let o7 : n / 256 % 256 ≡ g = omega arith in
    let o8 : n % 256 ≡ h = omega arith in
    rw (o1, o2, o3, o4, o5, o6, o7, o8) refl

pub long_front : (octets : List ℕ) → IsOctets octets → 8 ≤ length octets → big_bytes 8 (big_number 8 octets) ≡ take 8 octets
long_front [] fits long = absurd (omega arith)
long_front (a ∷ []) fits long = absurd (omega arith)
long_front (a ∷ b ∷ []) fits long = absurd (omega arith)
long_front (a ∷ b ∷ c ∷ []) fits long = absurd (omega arith)
long_front (a ∷ b ∷ c ∷ d ∷ []) fits long = absurd (omega arith)
long_front (a ∷ b ∷ c ∷ d ∷ e ∷ []) fits long = absurd (omega arith)
long_front (a ∷ b ∷ c ∷ d ∷ e ∷ f ∷ []) fits long = absurd (omega arith)
long_front (a ∷ b ∷ c ∷ d ∷ e ∷ f ∷ g ∷ []) fits long = absurd (omega arith)
long_front (a ∷ b ∷ c ∷ d ∷ e ∷ f ∷ g ∷ h ∷ rest) fits long = long_again a b c d e f g h rest (fits 0) (fits 1) (fits 2) (fits 3) (fits 4) (fits 5) (fits 6) (fits 7)

pub long_short : (octets : List ℕ) → IsOctets octets → big_number 8 octets < 2 ^ 64
long_short octets fits = omega (arith, fits 0, fits 1, fits 2, fits 3, fits 4, fits 5, fits 6, fits 7)
