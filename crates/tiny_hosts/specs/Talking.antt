-- The PDUs of the tiny hosts: one octet and a zero, on channel 64 (Core 5.1, Volume 3 Part A, 3.1).
use Rattle.std.specs.Prelude.{ℕ, ◌+◌, ◌%◌, nat_lt, List, [], ◌∷◌, if◌then◌else◌}

abbrev pub channel : ℕ
channel = 0x40

abbrev pub pdu_of : ℕ → List ℕ
pdu_of octet = 2 ∷ 0 ∷ channel ∷ 0 ∷ octet % 256 ∷ 0 ∷ []

-- the octet that a PDU carries, and 0 where it has none
abbrev pub octet_in : List ℕ → ℕ
octet_in (a ∷ b ∷ c ∷ d ∷ octet ∷ rest) = octet
octet_in pdu = 0

-- one more, up to the greatest number of sixteen bits
abbrev pub one_more : ℕ → ℕ
one_more count = if nat_lt count 65535 then count + 1 else count
