-- Whole frames: PDUs that are cut come back from the groups of their pieces.
use Rattle.std.specs.Prelude.{◌≡◌, ℕ, ◌≤◌, List, [], ◌∷◌, ◌++◌, length, true, false, ◌⊎◌}
use Rattle.std.specs.List.{AllByRecursion}
use Rattle.hci_packets.specs.declared.acl.Boundary.{Boundary}
use Rattle.acl_fragments.specs.Pieces.{Piece, starts, pdu_length, channel_of}
use Rattle.acl_fragments.specs.Groups.{groups, last_group, GivesPdu}
use Rattle.acl_fragments.specs.Cuts.{cut}
use Rattle.acl_fragments.specs.Answers.{Pdu, answer, open_after}

-- octets are a PDU where they have a whole header, which says how many they are
abbrev pub IsPdu : List ℕ → Type 0
IsPdu octets = (4 ≤ length octets) × (pdu_length octets ≡ length octets)

-- the pieces of PDUs that are cut one after the other
abbrev pub all_cut : ℕ → Boundary → List (List ℕ) → List Piece
all_cut size boundary [] = []
all_cut size boundary (pdu ∷ pdus) = cut size boundary pdu ++ all_cut size boundary pdus

-- there is one group for each PDU, which gives it
abbrev pub GivePdus : ℕ → List (List (List ℕ)) → List (List ℕ) → Type 0
GivePdus limit [] [] = Unit {0}
GivePdus limit [] (pdu ∷ pdus) = ⊥
GivePdus limit (group ∷ others) [] = ⊥
GivePdus limit (group ∷ others) (pdu ∷ pdus) = GivesPdu limit group pdu × GivePdus limit others pdus

-- PDUs within the limit, cut into pieces of any size that a controller may take, are the PDUs of the groups
abbrev pub WholeFrames : Type 0
WholeFrames =
    (limit size : ℕ) (boundary : Boundary) (pdus : List (List ℕ)) → 27 ≤ size → starts boundary ≡ true
    → AllByRecursion (λ pdu. IsPdu pdu × (length pdu ≤ limit)) pdus → GivePdus limit (groups (all_cut size boundary pdus)) pdus

-- a group gives at most one PDU
abbrev pub OnePdu : Type 0
OnePdu = (limit : ℕ) (group : List (List ℕ)) (first second : List ℕ) → GivesPdu limit group first → GivesPdu limit group second → first ≡ second

-- a piece that is answered with a PDU ends a group that gives it
abbrev pub AnsweredIsGiven : Type 0
AnsweredIsGiven =
    (limit : ℕ) (past : List Piece) (piece : Piece) (channel : ℕ) (pdu : List ℕ)
    → answer limit (open_after limit past) (starts piece.boundary) piece.octets ≡ Pdu channel pdu
    → GivesPdu limit (last_group (past ++ piece ∷ [])) pdu × (channel ≡ channel_of pdu)

-- a PDU that the last group gives was answered with the last piece, or the group gave it without that piece
abbrev pub GivenIsAnswered : Type 0
GivenIsAnswered =
    (limit : ℕ) (past : List Piece) (piece : Piece) (pdu : List ℕ)
    → GivesPdu limit (last_group (past ++ piece ∷ [])) pdu
    → (answer limit (open_after limit past) (starts piece.boundary) piece.octets ≡ Pdu (channel_of pdu) pdu)
    ⊎ ((starts piece.boundary ≡ false) × GivesPdu limit (last_group past) pdu)
