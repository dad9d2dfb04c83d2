-- What is in the air between two hosts, and how the packets of a capture change it; the words of a script, and how many were done (this project's own).
use Rattle.std.specs.Prelude.{ℕ, ◌+◌, ◌-◌, ◌*◌, ◌≡◌, ◌==◌, ◌&&◌, not, nat_lt, Bool, true, false, List, [], ◌∷◌, ◌++◌, length, drop, replicate, map, Option, Some, None, is_some, if◌then◌else◌}
use Rattle.std.specs.List.{flat_map, list_all}
use Rattle.h4_framing.specs.Packets.{Packet, Command, Acl}
use Rattle.hci_packets.specs.AclWords.{flag_of}
use Rattle.acl_fragments.specs.Pieces.{Piece}
use Rattle.push_terms.specs.declared.word.Side.{Side}
use Rattle.push_terms.specs.declared.word.Side.TheVariants as sides
use Rattle.push_terms.specs.declared.word.Way.{Way}
use Rattle.push_terms.specs.declared.word.Way.TheVariants.{Ab, Ba}
use Rattle.push_terms.specs.declared.word.Word.{Word}
use Rattle.capture.specs.declared.flow.Flow.TheVariants.{Out, Into}
use Rattle.capture.specs.Entries.{Entry, Moved, Acted, Ended}
use Rattle.capture.specs.Moves.{Move}
use Rattle.capture.specs.Links.{Link, LinkNews, Answered, LinkEnded, links, link_up}
use Rattle.capture.specs.Pdus.{completed}
use Rattle.capture.specs.Frames.{Direction, empty, with_frames, emptied}

-- ---- the air

-- The air: the number of the link that it carries, from 1 on; whether that link was broken off; both directions of it;
-- the direction that a `pass` served last; and the pieces that were handed over and did not come into a host yet.
pub record Air : Type 0 where
  pub link : ℕ
  pub broken : Bool
  pub ab : Direction
  pub ba : Direction
  pub served : Option Way
  pub due_a : List Piece
  pub due_b : List Piece

abbrev pub no_air : Air
no_air = record { link = 0; broken = true; ab = empty; ba = empty; served = None; due_a = []; due_b = [] }

-- a new link: nothing is in the air yet
abbrev pub renewed : ℕ → Air → Air
renewed link air = record air { link = link; broken = false; ab = empty; ba = empty }

-- a link that is broken off: all its frames leave, and no others are put in
abbrev pub broken_off : Air → Air
broken_off air = record air { broken = true; ab = emptied air.ab; ba = emptied air.ba }

abbrev pub direction : Way → Air → Direction
direction Ab air = air.ab
direction Ba air = air.ba

abbrev pub due : Side → Air → List Piece
due sides.A air = air.due_a
due sides.B air = air.due_b

-- ---- what a packet does

-- the frames that a packet completes on the link of the host that it comes out of
abbrev pub frames_of : Move → Option Link → List (List ℕ)
frames_of move None = []
frames_of move (Some link) = map (λ pdu. pdu.octets) (completed link.handle link.moves move)

-- a frame is put into the direction from its host on, while its link is the one in the air and is not broken off
abbrev pub frames_put : Side → List Entry → Packet → Air → List (List ℕ)
frames_put side past packet air =
    if (length (links side past) == air.link) && not air.broken
    then frames_of (record { flow = Out; packet = packet }) (link_up side past)
    else []

abbrev pub put_from : Side → List (List ℕ) → Air → Air
put_from sides.A frames air = record air { ab = with_frames frames air.ab }
put_from sides.B frames air = record air { ba = with_frames frames air.ba }

-- the Disconnect command for the link that is up (Core 5.1, Volume 2 Part E, 7.1.6)
abbrev pub is_disconnect : Option Link → Packet → Bool
is_disconnect (Some link) (Command opcode (low ∷ high ∷ reason ∷ [])) = (opcode == 0x0406) && (low + 256 * high == link.handle)
is_disconnect _ _ = false

abbrev pub breaks_off : Side → List Entry → Packet → Air → Bool
breaks_off side past packet air = (length (links side past) == air.link) && is_disconnect (link_up side past) packet

-- a packet out of a host
abbrev pub after_out : List Entry → Air → Side → Packet → Air
after_out past air side packet =
    if breaks_off side past packet air then broken_off air else put_from side (frames_put side past packet air) air

abbrev pub without_first_due : Side → Air → Air
without_first_due sides.A air = record air { due_a = drop 1 air.due_a }
without_first_due sides.B air = record air { due_b = drop 1 air.due_b }

-- an event into a host: the first that makes a link renews the air
abbrev pub after_event : List Entry → Air → Side → Packet → Air
after_event past air side packet =
    if nat_lt air.link (length (links side (past ++ Moved side Into packet ∷ [])))
    then renewed (length (links side (past ++ Moved side Into packet ∷ []))) air
    else air

abbrev pub after_into : List Entry → Air → Side → Packet → Air
after_into past air side (Acl word octets) = without_first_due side air
after_into past air side packet = after_event past air side packet

-- ---- the rules

-- a piece comes into a host as it is due: on the handle of the link that is up
abbrev pub IsPiece : ℕ → List ℕ → Piece → Option Link → Type 0
IsPiece word octets piece None = ⊥
IsPiece word octets piece (Some link) = (word ≡ link.handle + 0x1000 * flag_of piece.boundary) × (octets ≡ piece.octets)

abbrev pub IsFirst : ℕ → List ℕ → Option Link → List Piece → Type 0
IsFirst word octets link [] = ⊥
IsFirst word octets link (piece ∷ pieces) = IsPiece word octets piece link

-- the place in the script of the last word that did something
abbrev pub ordinal_of : Entry → List ℕ
ordinal_of (Acted ordinal word) = ordinal ∷ []
ordinal_of _ = []

abbrev pub last_or : ℕ → List ℕ → ℕ
last_or before [] = before
last_or before (n ∷ ns) = last_or n ns

abbrev pub words_done : List Entry → ℕ
words_done past = last_or 0 (flat_map ordinal_of past)

-- nothing that was handed over has yet to come, and both hosts know whether the air has a link
pub record IsSettled (past : List Entry) (air : Air) : Type 0 where
  pub a : air.due_a ≡ []
  pub b : air.due_b ≡ []
  pub knows_a : is_some (link_up sides.A past) ≡ not air.broken
  pub knows_b : is_some (link_up sides.B past) ≡ not air.broken

-- an event that tells of a connection or of its end comes behind all that was handed over
abbrev pub ComesBehind : LinkNews → List Piece → Type 0
ComesBehind (Answered status handle) pieces = pieces ≡ []
ComesBehind (LinkEnded handle) pieces = pieces ≡ []
ComesBehind _ pieces = Unit {0}

-- the entries without the ends of pushes that stand last: the words that are left find nothing before these
abbrev pub is_end : Entry → Bool
is_end (Ended push outcome) = true
is_end _ = false

abbrev pub before_last_ends : List Entry → List Entry
before_last_ends [] = []
before_last_ends (entry ∷ rest) = if list_all is_end (entry ∷ rest) then [] else entry ∷ before_last_ends rest

-- the words of the runs of a script, each as often as its run says
abbrev pub words_of : List (ℕ × Word) → List Word
words_of runs = flat_map (λ run. replicate run.0 run.1) runs
