-- A PDU of L2CAP in the pieces that ACL packets carry (Core 5.1, Volume 2 Part E, 5.4.2).
use Rattle.std.specs.Prelude.{ℕ, ◌+◌, List, [], ◌∷◌, ◌++◌, drop, Bool, true, false}
use Rattle.byteorder.specs.Endian.{little_number}
use Rattle.hci_packets.specs.declared.acl.Boundary.{Boundary}
use Rattle.hci_packets.specs.declared.acl.Boundary.TheVariants.{First, Continuing, FirstFromController}

-- where a piece stands in its PDU, and what it carries
pub record Piece : Type 0 where
  pub boundary : Boundary
  pub octets : List ℕ

-- whether a PDU begins with a piece
abbrev pub starts : Boundary → Bool
starts First = true
starts Continuing = false
starts FirstFromController = true

-- the basic header (Volume 3 Part A, 3.1): two octets with the length of what follows the header, and two with the
-- channel identifier
abbrev pub pdu_length : List ℕ → ℕ
pdu_length octets = 4 + little_number 2 octets

abbrev pub channel_of : List ℕ → ℕ
channel_of octets = little_number 2 (drop 2 octets)

-- lists joined, the first one first
abbrev pub joined : List (List ℕ) → List ℕ
joined [] = []
joined (xs ∷ rest) = xs ++ joined rest
