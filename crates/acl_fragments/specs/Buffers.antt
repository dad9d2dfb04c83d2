-- The buffer of a joiner.
use Rattle.std.specs.Prelude.{ℕ, ◌<◌, ◌≤◌, List, length, take}
use Rattle.acl_fragments.specs.Pieces.{pdu_length}

-- octets that are held are those of a group that is open
abbrev pub IsOpen : ℕ → List ℕ → Type 0
IsOpen limit octets = 0 < length octets → (4 ≤ length octets) × (pdu_length octets ≤ limit) × (length octets < pdu_length octets)

-- the buffer has room for the longest PDU, and the octets that are held at its front
abbrev pub IsBuffer : (limit capacity held : ℕ) → List ℕ → Type 0
IsBuffer limit capacity held items = (limit ≤ capacity) × (held ≤ length items) × IsOpen limit (take held items)
