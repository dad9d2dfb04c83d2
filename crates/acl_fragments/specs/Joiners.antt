-- What a joiner holds, and what a call of it gives.
use Rattle.std.specs.Prelude.{◌≡◌, ℕ, List, ◌∷◌, ◌++◌, [], Bool}
use Rattle.hci_packets.specs.declared.acl.Boundary.{Boundary}
use Rattle.acl_fragments.specs.declared.joined.Joined.{Joined}
use Rattle.acl_fragments.specs.declared.joined.Got.{Got}
use Rattle.acl_fragments.specs.declared.joined.Got.TheVariants as lent
use Rattle.acl_fragments.specs.Pieces.{Piece, starts}
use Rattle.acl_fragments.specs.Answers.{Answer, Pdu, More, Dropped, open_after, answer, leaves_unfinished, held_after}

-- the longest PDU that is joined, and the octets of the group that is open
pub record Held : Type 0 where
  pub limit : ℕ
  pub octets : List ℕ

-- what a call gives, without where a PDU lies in memory
abbrev pub plain_answer : Got → Answer
plain_answer (lent.Pdu channel octets) = Pdu channel octets.now
plain_answer lent.More = More
plain_answer (lent.Dropped reason) = Dropped reason

-- a joiner holds what is open after these pieces
abbrev pub HoldsOpen : List Piece → Held → Type 0
HoldsOpen past held = held.octets ≡ open_after held.limit past

-- what one call gives, and what is held then
pub record Takes (old : Held) (start : Bool) (piece : List ℕ) (result : Joined) (new : Held) : Type 0 where
  pub got : plain_answer result.got ≡ answer old.limit old.octets start piece
  pub unfinished : result.unfinished ≡ leaves_unfinished old.octets start
  pub held : new ≡ record { limit = old.limit; octets = held_after old.limit old.octets start piece }

-- so a call answers for the group of its piece: after any pieces whose open group is held, it gives what the piece
-- gives after them, and holds what is open then
pub record Follows (old : Held) (boundary : Boundary) (piece : List ℕ) (result : Joined) (new : Held) (past : List Piece) : Type 0 where
  pub got : plain_answer result.got ≡ answer old.limit (open_after old.limit past) (starts boundary) piece
  pub unfinished : result.unfinished ≡ leaves_unfinished (open_after old.limit past) (starts boundary)
  pub holds : HoldsOpen (past ++ record { boundary = boundary; octets = piece } ∷ []) new

pub record Joins (old : Held) (boundary : Boundary) (piece : List ℕ) (result : Joined) (new : Held) : Type 0 where
  pub call : Takes old (starts boundary) piece result new
  pub past : (past : List Piece) → HoldsOpen past old → Follows old boundary piece result new past
