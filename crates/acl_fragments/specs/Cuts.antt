-- A PDU cut into pieces.
use Rattle.std.specs.Prelude.{ℕ, zero, suc, List, [], ◌∷◌, length, take, drop}
use Rattle.hci_packets.specs.declared.acl.Boundary.{Boundary}
use Rattle.hci_packets.specs.declared.acl.Boundary.TheVariants.{Continuing}
use Rattle.acl_fragments.specs.Pieces.{Piece}

-- at most `count` pieces of `size` octets each, the last with the rest, the first one with this boundary
abbrev pub first_pieces : (count size : ℕ) → Boundary → List ℕ → List Piece
first_pieces zero size boundary octets = []
first_pieces (suc count) size boundary [] = []
first_pieces (suc count) size boundary (x ∷ xs) =
    record { boundary = boundary; octets = take size (x ∷ xs) } ∷ first_pieces count size Continuing (drop size (x ∷ xs))

-- the octets in pieces of `size` octets, the last with the rest
abbrev pub cut : ℕ → Boundary → List ℕ → List Piece
cut size boundary octets = first_pieces (length octets) size boundary octets
