-- A controller of the simulated radio, as its host sees it (Core 5.1, Volume 2 Part E, 4.1, 7 and 7.7).
use Rattle.std.specs.Prelude.{ℕ, ◌*◌, ◌+◌, Bool, true, false, List, [], ◌∷◌, ◌++◌, nat_lt, Option, Some, None, if◌then◌else◌}
use Rattle.bt_base.specs.Octets.{le16}
use Rattle.h4_framing.specs.Packets.{Packet, Acl, Event}
use Rattle.hci_packets.specs.AclWords.{flag_of}
use Rattle.hci_packets.specs.Events.{PlainEvent, code_of, event_params, ConnectionComplete, ConnectionRequest, DisconnectionComplete, CommandComplete, CommandStatus, CompletedPackets}
use Rattle.acl_fragments.specs.Pieces.{Piece}
use Rattle.push_terms.specs.declared.word.Side.{Side}
use Rattle.push_terms.specs.declared.word.Side.TheVariants as sides

-- what a controller owes its host
pub data Answer : Type 0 where
  -- Command Complete, with what the command returns
  Returned : (opcode : ℕ) (params : List ℕ) → Answer
  -- Command Status
  Stated : (opcode : ℕ) → Answer
  -- Connection Request of the other device
  Called : Answer
  -- Connection Complete
  LinkMade : (handle : ℕ) → Answer
  -- Disconnection Complete
  LinkGone : (handle reason : ℕ) → Answer
  -- Number Of Completed Packets
  GivenBack : (handle count : ℕ) → Answer

-- the addresses of the two devices, the lowest octet first
abbrev pub address : Side → List ℕ
address sides.A = 0x0A ∷ 0 ∷ 0 ∷ 0 ∷ 0 ∷ 0 ∷ []
address sides.B = 0x0B ∷ 0 ∷ 0 ∷ 0 ∷ 0 ∷ 0 ∷ []

abbrev pub other_side : Side → Side
other_side sides.A = sides.B
other_side sides.B = sides.A

-- One command may be sent at any time. A link carries ACL data and is not encrypted.
abbrev pub event_of : Side → Answer → PlainEvent
event_of side (Returned opcode params) = CommandComplete 1 opcode params
event_of side (Stated opcode) = CommandStatus 0 1 opcode
event_of side Called = ConnectionRequest (address (other_side side)) 0 1
event_of side (LinkMade handle) = ConnectionComplete 0 handle (address (other_side side)) 1 0
event_of side (LinkGone handle reason) = DisconnectionComplete 0 handle reason
event_of side (GivenBack handle count) = CompletedPackets 1 (le16 handle ++ le16 count)

-- the packet in which an answer comes to the host of a side
abbrev pub answer_packet : Side → Answer → Packet
answer_packet side answer = Event (code_of (event_of side answer)) (event_params (event_of side answer))

-- the packet in which a piece of a frame comes, on the link of that handle
abbrev pub piece_packet : ℕ → Piece → Packet
piece_packet handle piece = Acl (handle + 0x1000 * flag_of piece.boundary) piece.octets

-- A controller, and all that is on its way to its host and from it. The n-th link has handle n.
pub record Controller : Type 0 where
  -- what its host last wrote to Scan Enable
  pub scan : ℕ
  -- how many links its host was told of
  pub told : ℕ
  -- whether the last one is up, as far as its host was told
  pub up : Bool
  -- the packets of its host on that link that were taken and not given back yet
  pub taken : ℕ
  -- the octets of the frame that its host has begun on that link
  pub begun : List ℕ
  -- the frames of its host that wait in the air, the first one first
  pub waiting : List (List ℕ)
  -- the pieces that are handed over to its host and did not come yet
  pub coming : List Piece
  -- what else it owes its host, the first one first
  pub owed : List Answer

-- at first nothing is told and nothing owed; nobody may page it
abbrev pub new_controller : Controller
new_controller = record { scan = 0; told = 0; up = false; taken = 0; begun = []; waiting = []; coming = []; owed = [] }

abbrev pub owing : List Answer → Controller → Controller
owing more controller = record controller { owed = controller.owed ++ more }

-- the packets that were taken are given back by one event
abbrev pub gives_back : ℕ → ℕ → List Answer
gives_back handle count = if nat_lt 0 count then GivenBack handle count ∷ [] else []

abbrev pub after_giving_back : Controller → Controller
after_giving_back controller = record controller { taken = 0; owed = controller.owed ++ gives_back controller.told controller.taken }

-- ---- what comes to the host

-- pieces come before all else that is owed; they are on the link of that handle
abbrev pub first_packet : Side → ℕ → List Piece → List Answer → Option Packet
first_packet side handle (piece ∷ coming) owed = Some (piece_packet handle piece)
first_packet side handle [] (answer ∷ owed) = Some (answer_packet side answer)
first_packet side handle [] [] = None

-- what the host knows once it was told; a new link begins with nothing
abbrev pub after_telling : Answer → Controller → Controller
after_telling (LinkMade handle) controller = record controller { told = handle; up = true; taken = 0; begun = [] }
after_telling (LinkGone handle reason) controller = record controller { up = false }
after_telling answer controller = controller

abbrev pub after_first_of : List Piece → List Answer → Controller → Controller
after_first_of (piece ∷ coming) owed controller = record controller { coming = coming }
after_first_of [] (answer ∷ owed) controller = after_telling answer (record controller { owed = owed })
after_first_of [] [] controller = controller

-- what is first was handed to the host
abbrev pub after_handing : Controller → Controller
after_handing controller = after_first_of controller.coming controller.owed controller

-- nothing is on its way to the host
abbrev pub is_empty : {X : Type 0} → List X → Bool
is_empty [] = true
is_empty (x ∷ xs) = false
