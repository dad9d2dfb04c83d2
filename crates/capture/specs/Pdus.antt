-- The PDUs of a link (Core 5.1, Volume 2 Part E, 5.4.2, and Volume 3 Part A, 3.1). A PDU stands where its last piece
-- stands.
use Rattle.std.specs.Prelude.{ℕ, ◌==◌, List, [], ◌∷◌, Bool, true, false, Option, Some, None, if◌then◌else◌}
use Rattle.std.specs.List.{filter_map}
use Rattle.capture.specs.Histories.{given_by}
use Rattle.h4_framing.specs.Packets.{Packet, Acl}
use Rattle.hci_packets.specs.declared.acl.Boundary.{Boundary}
use Rattle.capture.specs.PieceHeads.{piece_head}
use Rattle.acl_fragments.specs.Pieces.{Piece, starts}
use Rattle.acl_fragments.specs.Answers.{Answer, Pdu as Whole, answer, open_after}
use Rattle.capture.specs.declared.flow.Flow.{Flow}
use Rattle.capture.specs.declared.flow.Flow.TheVariants.{Out, Into}
use Rattle.capture.specs.Moves.{Move}
use Rattle.capture.specs.Links.{Link}

-- the longest PDU: out of a host as long as the length field can say, into a host what hosts of this project take
abbrev pub pdu_limit : Flow → ℕ
pdu_limit Out = 65539
pdu_limit Into = 32775

abbrev pub same_flow : Flow → Flow → Bool
same_flow Out Out = true
same_flow Into Into = true
same_flow _ _ = false

abbrev pub piece_with : ℕ → List ℕ → Option (ℕ × Boundary) → Option Piece
piece_with handle octets None = None
piece_with handle octets (Some head) = if head.0 == handle then Some (record { boundary = head.1; octets = octets }) else None

-- the piece that a packet carries on a handle
abbrev pub piece_of : ℕ → Packet → Option Piece
piece_of handle (Acl word octets) = piece_with handle octets (piece_head word)
piece_of handle _ = None

abbrev pub piece_in : Flow → ℕ → Move → Option Piece
piece_in flow handle move = if same_flow flow move.flow then piece_of handle move.packet else None

-- the pieces that moved in one direction
abbrev pub pieces : Flow → ℕ → List Move → List Piece
pieces flow handle moves = filter_map (piece_in flow handle) moves

-- a PDU, and the direction in which it moved
pub record Pdu : Type 0 where
  pub flow : Flow
  pub octets : List ℕ

abbrev pub whole_of : Flow → Answer → List Pdu
whole_of flow (Whole channel octets) = record { flow = flow; octets = octets } ∷ []
whole_of flow _ = []

-- the PDU that a piece completes after the pieces before it in its direction
abbrev pub completed_by : Flow → List Piece → Option Piece → List Pdu
completed_by flow past None = []
completed_by flow past (Some piece) =
    whole_of flow (answer (pdu_limit flow) (open_after (pdu_limit flow) past) (starts piece.boundary) piece.octets)

-- the PDU that a packet completes after those before it on its link
abbrev pub completed : ℕ → List Move → Move → List Pdu
completed handle past move = completed_by move.flow (pieces move.flow handle past) (piece_of handle move.packet)

-- the PDUs of a link, both ways, in the order in which they were completed
abbrev pub pdus : Link → List Pdu
pdus link = given_by (completed link.handle) link.moves
