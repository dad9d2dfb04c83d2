-- The groups that pieces form, and the PDUs that groups give.
use Rattle.std.specs.Prelude.{◌≡◌, ℕ, ◌≤◌, List, [], ◌∷◌, length, take, if◌then◌else◌}
use Rattle.acl_fragments.specs.Pieces.{Piece, starts, pdu_length, joined}

-- the pieces that stand before the next start
abbrev pub continuations : List Piece → List (List ℕ)
continuations [] = []
continuations (piece ∷ pieces) = if starts piece.boundary then [] else piece.octets ∷ continuations pieces

-- pieces are split before each start: a group is a start with the continuations after it. Continuations before the
-- first start belong to no group
abbrev pub groups : List Piece → List (List (List ℕ))
groups [] = []
groups (piece ∷ pieces) =
    if starts piece.boundary then (piece.octets ∷ continuations pieces) ∷ groups pieces else groups pieces

-- a group gives a PDU where its start has the whole header, the PDU is within the limit, and some of its first
-- pieces join to exactly as many octets as the header says
abbrev pub GivesPdu : ℕ → List (List ℕ) → List ℕ → Type 0
GivesPdu limit [] pdu = ⊥
GivesPdu limit (start ∷ rest) pdu =
    (4 ≤ length start) × (pdu_length start ≤ limit) × (length pdu ≡ pdu_length start)
    × ((count : ℕ) × (pdu ≡ joined (take count (start ∷ rest))))

-- the last group, and none of its pieces where there is no group
abbrev pub last_of : List (List ℕ) → List (List (List ℕ)) → List (List ℕ)
last_of group [] = group
last_of group (next ∷ others) = last_of next others

abbrev pub last_group : List Piece → List (List ℕ)
last_group pieces = last_of [] (groups pieces)
