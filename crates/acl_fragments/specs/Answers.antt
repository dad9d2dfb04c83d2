-- What the pieces of one link and direction give, one after the other.
use Rattle.std.specs.Prelude.{ℕ, ◌+◌, List, [], ◌∷◌, ◌++◌, length, Bool, ◌==◌, nat_lt, ◌&&◌, not, if◌then◌else◌}
use Rattle.acl_fragments.specs.declared.joined.DropReason.{DropReason}
use Rattle.acl_fragments.specs.declared.joined.DropReason.TheVariants.{StrayContinuation, Overrun, AboveLimit, ShortStart}
use Rattle.acl_fragments.specs.Pieces.{Piece, pdu_length, channel_of, joined}
use Rattle.acl_fragments.specs.Groups.{last_group}

-- what a piece gives, without where a PDU lies in memory
pub data Answer : Type 0 where
  Pdu : (channel : ℕ) (octets : List ℕ) → Answer
  More : Answer
  Dropped : DropReason → Answer

-- a start is judged by itself: the header must be whole and say a length within the limit. A start that is longer
-- than its PDU is an overrun whatever the limit
abbrev pub start_answer : ℕ → List ℕ → Answer
start_answer limit piece =
    if nat_lt (length piece) 4 then Dropped ShortStart
    else (if nat_lt (pdu_length piece) (length piece) then Dropped Overrun
    else (if nat_lt limit (pdu_length piece) then Dropped AboveLimit
    else (if pdu_length piece == length piece then Pdu (channel_of piece) piece else More)))

-- a continuation belongs to the octets of the group that is open, where one is
abbrev pub next_answer : List ℕ → List ℕ → Answer
next_answer held piece =
    if length held == 0 then Dropped StrayContinuation
    else (if nat_lt (pdu_length held) (length held + length piece) then Dropped Overrun
    else (if pdu_length held == length held + length piece then Pdu (channel_of (held ++ piece)) (held ++ piece) else More))

-- the octets of a group that is open: its start has the whole header and says a length within the limit, and the
-- group has fewer octets than that. Of any other group, none
abbrev pub open_octets : ℕ → List (List ℕ) → List ℕ
open_octets limit [] = []
open_octets limit (start ∷ rest) =
    if nat_lt (length start) 4 then []
    else (if nat_lt limit (pdu_length start) then []
    else (if nat_lt (length (joined (start ∷ rest))) (pdu_length start) then joined (start ∷ rest) else []))

-- the octets of the group that is open after these pieces
abbrev pub open_after : ℕ → List Piece → List ℕ
open_after limit past = open_octets limit (last_group past)

-- what a piece gives while these octets are held, whether it is a start or continues them
abbrev pub answer : ℕ → List ℕ → Bool → List ℕ → Answer
answer limit held start piece = if start then start_answer limit piece else next_answer held piece

-- whether a piece is a start that comes while a group is open
abbrev pub leaves_unfinished : List ℕ → Bool → Bool
leaves_unfinished held start = start && not (length held == 0)

-- what is held then: the octets so far, where more are wanted
abbrev pub kept : Answer → List ℕ → List ℕ
kept (Pdu channel pdu) octets = []
kept More octets = octets
kept (Dropped reason) octets = []

abbrev pub held_after : ℕ → List ℕ → Bool → List ℕ → List ℕ
held_after limit held start piece = kept (answer limit held start piece) (if start then piece else held ++ piece)
