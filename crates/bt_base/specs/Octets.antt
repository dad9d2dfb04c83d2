-- Octets and the numbers in them.
use Rattle.std.specs.Prelude.{ℕ, ◌<◌, List, slice_index}
use Rattle.byteorder.specs.Endian.{little_bytes, big_bytes}

-- each member is an octet
abbrev pub IsOctets : List ℕ → Type 0
IsOctets octets = (i : ℕ) → slice_index octets i < 256

-- the two octets of a number, the low octet first
abbrev pub le16 : ℕ → List ℕ
le16 n = little_bytes 2 n

-- the two octets of a number, the high octet first
abbrev pub be16 : ℕ → List ℕ
be16 n = big_bytes 2 n

-- the four octets of a number, the highest octet first
abbrev pub be32 : ℕ → List ℕ
be32 n = big_bytes 4 n
