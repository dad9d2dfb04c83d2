-- What a piece gives where its link's pieces of the same direction, and what is known of the link's channels, are given.
use Rattle.std.specs.Prelude.{ℕ, ◌≡◌, ◌+◌, ◌≤◌, ◌⊎◌, List, [], ◌∷◌, ◌++◌, length, Bool, false, cond, fold, codes, Option, Some, None}
use Rattle.hci_packets.specs.declared.acl.Boundary.{Boundary}
use Rattle.acl_fragments.specs.declared.joined.Got.{Got}
use Rattle.acl_fragments.specs.Pieces.{Piece, starts}
use Rattle.acl_fragments.specs.Answers.{Answer, More, answer, start_answer, open_after, leaves_unfinished}
use Rattle.acl_fragments.specs.Joiners.{Held, HoldsOpen, plain_answer}
use Rattle.seen_channels.specs.declared.direction.Direction.{Direction}
use Rattle.seen_channels.specs.declared.channels.Channels.{Channels}
use Rattle.seen_channels.specs.Tellings.{Learnt}
use Rattle.seen_channels.specs.Tables.{Keeps}
use Rattle.h4_view.specs.Pdus.{pdu_limit, given, said_in, with_pdu}
use Rattle.h4_view.specs.Details.{answer_text, goes_on, IsJoinerOf}

-- what stands under the line of a piece that goes that way: first whether it leaves a group unfinished
abbrev pub lane_text : List Piece → Learnt → Direction → Piece → List ℕ
lane_text past known direction piece =
    cond (leaves_unfinished (open_after pdu_limit past) (starts piece.boundary)) (codes "  unfinished\n") [] ++ answer_text known direction (given past piece)

-- what is known with it
abbrev pub learnt_with : List Piece → Learnt → Direction → Piece → Learnt
learnt_with past known direction piece = fold with_pdu known (said_in direction (given past piece))

-- a piece was shown and joined
pub record LaneShown (past : List Piece) (known : Learnt) (direction : Direction) (piece : Piece) (text text' : List ℕ) (joiner' : Held) (channels' : Channels) (on : Bool) : Type 0 where
  pub written : text' ≡ text ++ lane_text past known direction piece
  pub limit : joiner'.limit ≡ pdu_limit
  pub holds : HoldsOpen (past ++ piece ∷ []) joiner'
  pub goes : on ≡ goes_on (given past piece)
  pub channels : Keeps (learnt_with past known direction piece) channels'

-- a piece was shown, and what holds the group of its direction is kept
pub record LaneKept (past : List Piece) (known : Learnt) (direction : Direction) (piece : Piece) (text text' : List ℕ) (lane' : Option Held) (channels' : Channels) : Type 0 where
  pub written : text' ≡ text ++ lane_text past known direction piece
  pub joiner : IsJoinerOf (past ++ piece ∷ []) lane'
  pub channels : Keeps (learnt_with past known direction piece) channels'

-- how many joiners a lane has
abbrev pub joiners : Option Held → ℕ
joiners None = 0
joiners (Some held) = 1

-- No joiner is made while one is spare: there are no more than before, or none is spare.
abbrev pub MakesFew : (spare spare' : List Held) (lane lane' : Option Held) → Type 0
MakesFew spare spare' lane lane' = (length spare' + joiners lane' ≤ length spare + joiners lane) ⊎ (spare' ≡ [])

-- this is given, and its group does not go on; none is given where the group does
abbrev pub IsGiven : Answer → Option Got → Type 0
IsGiven wanted None = wanted ≡ More
IsGiven wanted (Some got) = (plain_answer got ≡ wanted) × (goes_on wanted ≡ false)

-- what a piece gives where there is no joiner; none is given where there is one
abbrev pub IsAlone : Option Held → Boundary → List ℕ → Option Got → Type 0
IsAlone lane boundary octets None = lane ≡ None → answer pdu_limit [] (starts boundary) octets ≡ More
IsAlone lane boundary octets (Some got) = (lane ≡ None) × IsGiven (answer pdu_limit [] (starts boundary) octets) (Some got)

-- what a start gives, which is judged by itself
abbrev pub IsWholeStart : List ℕ → Option Got → Type 0
IsWholeStart octets got = IsGiven (start_answer pdu_limit octets) got
