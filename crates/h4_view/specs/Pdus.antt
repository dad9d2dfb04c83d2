-- The whole PDUs of a link in a stream of packets, which way each goes, and what they tell of channels (Core 5.1,
-- Volume 2 Part E, 5.4.2, and Volume 3 Part A, 2.1).
use Rattle.std.specs.Prelude.{ℕ, List, [], ◌∷◌, ◌++◌, drop, fold, cond, ◌==◌}
use Rattle.hci_packets.specs.declared.acl.Boundary.{Boundary}
use Rattle.hci_packets.specs.declared.acl.Boundary.TheVariants.{First, Continuing, FirstFromController}
use Rattle.acl_fragments.specs.Pieces.{Piece, starts}
use Rattle.acl_fragments.specs.Answers.{Answer, Pdu, More, Dropped, answer, open_after}
use Rattle.seen_channels.specs.declared.direction.Direction.{Direction}
use Rattle.seen_channels.specs.declared.direction.Direction.TheVariants.{Out, In}
use Rattle.seen_channels.specs.Tellings.{Learnt, nothing, heard}

-- the longest PDU that a length field of two octets can state, with its header
abbrev pub pdu_limit : ℕ
pdu_limit = 65539

-- a whole PDU, and which way it goes
pub record Said : Type 0 where
  pub direction : Direction
  pub channel : ℕ
  pub octets : List ℕ

-- a start that may not be flushed goes out of a host, one from a controller comes in, and a piece that continues goes
-- the way of its start
abbrev pub turned : Direction → Boundary → Direction
turned before First = Out
turned before Continuing = before
turned before FirstFromController = In

-- which way the last group of pieces goes
abbrev pub direction_after : List Piece → Direction
direction_after pieces = fold (λ before piece. turned before piece.boundary) Out pieces

-- the PDU that is whole with a piece
abbrev pub said_in : Direction → Answer → List Said
said_in direction (Pdu channel octets) = record { direction = direction; channel = channel; octets = octets } ∷ []
said_in direction More = []
said_in direction (Dropped reason) = []

-- what a piece gives after these pieces, and which way it goes
abbrev pub given : List Piece → Piece → Answer
given past piece = answer pdu_limit (open_after pdu_limit past) (starts piece.boundary) piece.octets

abbrev pub goes : List Piece → Piece → Direction
goes past piece = turned (direction_after past) piece.boundary

-- the whole PDUs of pieces that come after these pieces
abbrev pub said_from : List Piece → List Piece → List Said
said_from past [] = []
said_from past (piece ∷ pieces) = said_in (goes past piece) (given past piece) ++ said_from (past ++ piece ∷ []) pieces

-- the whole PDUs of pieces
abbrev pub said : List Piece → List Said
said pieces = said_from [] pieces

-- a PDU on the signalling channel, which has number 1, tells of channels
abbrev pub with_pdu : Learnt → Said → Learnt
with_pdu learnt pdu = cond (pdu.channel == 0x0001) (heard pdu.direction (drop 4 pdu.octets) learnt) learnt

-- what is known after these PDUs of a link
abbrev pub known : List Said → Learnt
known pdus = fold with_pdu nothing pdus

-- what is known after these pieces of a link
abbrev pub learnt : List Piece → Learnt
learnt pieces = known (said pieces)
