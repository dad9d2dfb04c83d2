-- One direction of the air: the frames that wait, the one that its host has begun, and the one that is handed over.
use Rattle.std.specs.Prelude.{ℕ, ◌+◌, ◌≡◌, ◌≤◌, ◌<◌, ◌||◌, nat_lt, Bool, List, [], ◌∷◌, ◌++◌, length, take, drop, map, Option, Some, None, if◌then◌else◌}
use Rattle.h4_framing.specs.Packets.{Packet, spelling, IsPacket}
use Rattle.hci_packets.specs.declared.acl.Boundary.TheVariants.{FirstFromController}
use Rattle.acl_fragments.specs.Pieces.{Piece, joined, starts}
use Rattle.acl_fragments.specs.Answers.{answer, held_after}
use Rattle.capture.specs.declared.flow.Flow.TheVariants.{Out}
use Rattle.capture.specs.Pdus.{whole_of}
use Rattle.acl_fragments.specs.Cuts.{cut}
use Rattle.radio_model.specs.declared.fate.Fate.{Fate}
use Rattle.radio_model.specs.declared.fate.Fate.TheVariants.{Changed}
use Rattle.radio_model.specs.Fates.{Meeting, meets}
use Rattle.radio_model.specs.Controllers.{piece_packet}
use Rattle.radio_model.specs.Radio.{frame_limit, first_or_nothing}

-- how many octets a piece has at most, the frames that wait, the octets of the one that was begun, and the pieces of the
-- one that is handed over
pub record Queue : Type 0 where
  pub size : ℕ
  pub waiting : List (List ℕ)
  pub begun : List ℕ
  pub coming : List Piece

abbrev pub new_queue : ℕ → Queue
new_queue size = record { size = size; waiting = []; begun = []; coming = [] }

-- a controller takes packets of 27 to 1021 octets
abbrev pub IsSize : ℕ → Type 0
IsSize size = (27 ≤ size) × (size ≤ 1021)

-- ---- what is done

-- a piece of its host comes
abbrev pub taking_part : (flies start : Bool) → List ℕ → Queue → Queue
taking_part flies start octets queue = record queue {
  begun = held_after frame_limit queue.begun start octets;
  waiting = if flies then queue.waiting ++ map (λ pdu. pdu.octets) (whole_of Out (answer frame_limit queue.begun start octets)) else queue.waiting;
}

abbrev pub taking : (flies : Bool) → Piece → Queue → Queue
taking flies piece queue = taking_part flies (starts piece.boundary) piece.octets queue

-- more frames, or more octets of these, than memory is reserved for
abbrev pub is_crowded : List (List ℕ) → Bool
is_crowded frames = nat_lt 256 (length frames) || nat_lt 1048576 (length (joined frames))

-- the first frame that waits meets its fate
abbrev pub handing_over : Meeting → List (List ℕ) → Queue → Queue
handing_over meeting rest queue = record queue { waiting = meeting.stays ++ rest; coming = queue.coming ++ meeting.pieces }

abbrev pub first_meeting : Fate → (checked : Bool) → List (List ℕ) → Queue → Queue
first_meeting fate checked [] queue = queue
first_meeting fate checked (frame ∷ rest) queue = handing_over (meets queue.size fate checked frame) rest queue

abbrev pub meeting : Fate → (checked : Bool) → Queue → Queue
meeting fate checked queue = first_meeting fate checked queue.waiting queue

-- so many octets of the first frame that waits are handed over, and so many frames leave
abbrev pub begun_with : (handing leaving : ℕ) → Queue → Queue
begun_with handing leaving queue =
    record queue { waiting = drop leaving queue.waiting; coming = cut queue.size FirstFromController (take handing (first_or_nothing queue.waiting)) }

-- a fate that changes a frame needs both octets in it
abbrev pub HasPlaces : Fate → List ℕ → Type 0
HasPlaces (Changed at mask) frame = at + 1 < length frame
HasPlaces fate frame = Unit {0}

-- ---- packets that are handed to a host

-- the packet stands at the front of the octets, the others are as before, and `count` says how many octets it has
abbrev pub IsWritten : Packet → ℕ → List ℕ → List ℕ → Type 0
IsWritten packet count from to = (count ≡ length (spelling packet)) × (to ≡ spelling packet ++ drop (length (spelling packet)) from)

-- each number of the packet is in its range, and it has no more octets than the limit
abbrev pub IsShort : ℕ → Packet → Type 0
IsShort limit packet = IsPacket 65535 packet × (length (spelling packet) ≤ limit)

-- the longest packet into a host: a head of five octets, and 1021 octets
abbrev pub longest_packet : ℕ
longest_packet = 1026

-- the packet that comes next was written, and it is one that a capture may hold
abbrev pub IsHandedOver : Option Packet → Option ℕ → List ℕ → List ℕ → Type 0
IsHandedOver None result from to = (result ≡ None) × (to ≡ from)
IsHandedOver (Some packet) None from to = ⊥
IsHandedOver (Some packet) (Some count) from to = IsWritten packet count from to × IsShort longest_packet packet

-- the next piece, on the link of a handle
abbrev pub piece_first : ℕ → List Piece → Option Packet
piece_first handle [] = None
piece_first handle (piece ∷ coming) = Some (piece_packet handle piece)
