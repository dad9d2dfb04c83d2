-- Numbers and the octets of them.
use Rattle.std.proofs.Common.{◌≡◌, ℕ, suc, ◌+◌, ◌^◌, ◌<◌, ◌≤◌, List, ◌∷◌, ◌++◌, length, take, drop, sym, ap, ◌∙◌, arith, inl, inr}
use Rattle.std.proofs.lemmas.Bool.{cases_lt}
use Rattle.std.proofs.lemmas.List.{take-append-drop, length-take, get_or-drop, get_or-take, get_or_past}
use Rattle.byteorder.specs.Endian.{big_number}
use Rattle.bt_base.proofs.OctetLemmas.{be16-front, be32-front}
use Rattle.bt_base.specs.Octets.{IsOctets, be16, be32}

pub IsOctets-drop : (n : ℕ) (octets : List ℕ) → IsOctets octets → IsOctets (drop n octets)
IsOctets-drop n octets h i = rw get_or-drop (h (n + i))

pub IsOctets-take : (n : ℕ) (octets : List ℕ) → IsOctets octets → IsOctets (take n octets)
IsOctets-take n octets h i =
    elim (cases_lt i n) [
      | inl lt ↦ rw (get_or-take n octets i 0 lt) (h i)
      | inr le ↦ rw (get_or_past (take n octets) i 0 (omega (arith, length-take n octets))) (omega arith)
    ]

pub IsOctets-rest : (octet : ℕ) (octets : List ℕ) → IsOctets (octet ∷ octets) → IsOctets octets
IsOctets-rest octet octets h i = h (suc i)

-- octets again from their number
pub be16_back : (octets : List ℕ) → IsOctets octets → 2 ≤ length octets → octets ≡ be16 (big_number 2 octets) ++ drop 2 octets
be16_back octets h l = sym (take-append-drop 2 octets) ∙ ap (λ (front : List ℕ). front ++ drop 2 octets) (sym (be16-front octets h l))

pub be32_back : (octets : List ℕ) → IsOctets octets → 4 ≤ length octets → octets ≡ be32 (big_number 4 octets) ++ drop 4 octets
be32_back octets h l = sym (take-append-drop 4 octets) ∙ ap (λ (front : List ℕ). front ++ drop 4 octets) (sym (be32-front octets h l))

-- a number of two octets is below 2 ^ 16, and one of four below 2 ^ 32
pub big_number_2-lt : (octets : List ℕ) → IsOctets octets → big_number 2 octets < 2 ^ 16
big_number_2-lt octets h = omega (arith, h 0, h 1)

pub big_number_4-lt : (octets : List ℕ) → IsOctets octets → big_number 4 octets < 2 ^ 32
big_number_4-lt octets h = omega (arith, h 0, h 1, h 2, h 3)
