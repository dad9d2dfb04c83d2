-- The length fields of frames and of control messages (TS 07.10, 5.2.1.5 and 5.4.6).
use Rattle.std.specs.Prelude.{ℕ, ◌+◌, ◌*◌, ◌/◌, ◌%◌, ◌^◌, ◌<◌, ◌≡◌, ◌⊎◌, List, [], ◌∷◌, ◌++◌, length, nat_lt, if◌then◌else◌}

-- in one octet bit 0 is set, and the number stands above it
abbrev pub one_octet : ℕ → List ℕ
one_octet n = (0x01 + 2 * n) ∷ []

-- in two octets bit 0 of the first is clear, the low seven bits of the number stand above it, and the other eight
-- in the second octet
abbrev pub two_octets : ℕ → List ℕ
two_octets n = (2 * (n % 128)) ∷ (n / 128) ∷ []

-- the field states the number: one octet has room up to 127, two octets for any of fifteen bits
abbrev pub States : List ℕ → ℕ → Type 0
States field n = ((n < 128) × (field ≡ one_octet n)) ⊎ ((n < 2 ^ 15) × (field ≡ two_octets n))

-- the field that is written: one octet where that has room
abbrev pub shortest : ℕ → List ℕ
shortest n = if nat_lt n 128 then one_octet n else two_octets n

-- octets behind the field that states how many they are
abbrev pub sized : List ℕ → List ℕ
sized octets = shortest (length octets) ++ octets
