-- What is owed to a host, and what is outstanding of it (this project's own).
use Rattle.std.specs.Prelude.{ℕ, ◌<◌, ◌+◌, ◌==◌, ◌||◌, nat_le, Bool, List, [], ◌∷◌, ◌++◌, length, Option, Some, None, if◌then◌else◌}
use Rattle.bt_base.specs.Octets.{le16}
use Rattle.acl_fragments.specs.Pieces.{Piece}
use Rattle.hci_packets.specs.declared.acl.Boundary.{Boundary}
use Rattle.push_terms.specs.declared.word.Side.{Side}
use Rattle.capture.specs.PieceHeads.{piece_head}
use Rattle.radio_model.specs.Controllers.{Controller, Answer, Returned, Stated, LinkMade, GivenBack, address, after_telling}
use Rattle.hci_packets.specs.Commands.{PlainCommand, CreateConnection, Disconnect, AcceptConnection, Reset, WriteScanEnable, ReadBufferSize, ReadBdAddr, Other}
use Rattle.radio_model.specs.Radio.{Radio, owes, frames, first_or_nothing, scanning, after_paging, after_reaching, after_accepting, after_disconnecting}
use Rattle.radio_model.specs.Queues.{Queue, HasPlaces, taking, is_crowded}
use Rattle.radio_model.specs.declared.deed.Deed.{Deed}
use Rattle.radio_model.specs.declared.deed.Deed.TheVariants.{Meets}

-- a controller, with the direction from its host and the one to it
abbrev pub with_queues : Queue → Queue → Controller → Controller
with_queues own other controller = record controller { begun = own.begun; waiting = own.waiting; coming = other.coming }

-- for so many answers memory is reserved
abbrev pub answers_reserved : ℕ
answers_reserved = 16

-- so many answers or more are owed to a host
abbrev pub owes_many : (count : ℕ) → Radio → Bool
owes_many count radio = nat_le count (length radio.a.owed) || nat_le count (length radio.b.owed)

-- Where the radio may want memory for a packet of a host: fifteen answers are owed to a host already, or more frames would
-- wait, or more octets of these, than memory is reserved for.
abbrev pub wants_memory : (old new : Radio) → Bool
wants_memory old new = owes_many 15 old || (is_crowded new.a.waiting || is_crowded new.b.waiting)

-- where the piece of an ACL packet stands in its frame, if it is one on the link that the host of a controller knows of
abbrev pub boundary_on : ℕ → Option (ℕ × Boundary) → Option Boundary
boundary_on handle None = None
boundary_on handle (Some head) = if head.0 == handle then Some head.1 else None

abbrev pub boundary_from : Controller → ℕ → Option Boundary
boundary_from controller word = if controller.up then boundary_on controller.told (piece_head word) else None

-- ---- packets outstanding

-- how many packets of a handle the answers give back
abbrev pub back_by : ℕ → Answer → ℕ
back_by handle (GivenBack other count) = if other == handle then count else 0
back_by handle answer = 0

abbrev pub back : ℕ → List Answer → ℕ
back handle [] = 0
back handle (answer ∷ rest) = back_by handle answer + back handle rest

-- the packets of a host that are outstanding on the link that it was told of: those that were taken, and those that are
-- about to be given back
abbrev pub outstanding_at : Controller → ℕ
outstanding_at one = if one.up then one.taken + back one.told one.owed else 0

-- ---- commands by their kind

-- a command that was read does what the row of its number says
abbrev pub after_kind : Side → PlainCommand → Radio → Radio
after_kind side (CreateConnection to packets repetition reserved clock switch) radio = after_paging side (owes side (Stated 0x0405 ∷ []) radio)
after_kind side (Disconnect handle reason) radio = after_disconnecting side handle (owes side (Stated 0x0406 ∷ []) radio)
after_kind side (AcceptConnection from role) radio = after_accepting side (owes side (Stated 0x0409 ∷ []) radio)
after_kind side Reset radio = owes side (Returned 0x0C03 (0 ∷ []) ∷ []) radio
after_kind side (WriteScanEnable value) radio = after_reaching (owes side (Returned 0x0C1A (0 ∷ []) ∷ []) (scanning side value radio))
after_kind side ReadBufferSize radio = owes side (Returned 0x1005 (0 ∷ (le16 radio.size ++ (0 ∷ (le16 radio.count ++ le16 0)))) ∷ []) radio
after_kind side ReadBdAddr radio = owes side (Returned 0x1009 (0 ∷ address side) ∷ []) radio
after_kind side (Other opcode params) radio = radio

-- where a frame is to meet its fate there is one, and it has the places
abbrev pub IsMet : Deed → Radio → Type 0
IsMet (Meets way fate) radio = (0 < length (frames way radio)) × HasPlaces fate (first_or_nothing (frames way radio))
IsMet deed radio = Unit {0}

-- ---- a host, and the two directions that are its own and the other's

-- a piece of the host goes into its own direction, if there is one
abbrev pub piece_taken : (flies : Bool) → Option Piece → Queue → Queue
piece_taken flies None queue = queue
piece_taken flies (Some piece) queue = taking flies piece queue

-- what comes to the host next leaves the other direction, or what is owed
abbrev pub told_first : List Piece → List Answer → Controller → Controller
told_first (piece ∷ coming) owed controller = controller
told_first [] (answer ∷ owed) controller = after_telling answer (record controller { owed = owed })
told_first [] [] controller = controller

-- a new link begins with nothing
abbrev pub forgot_begun : List Piece → List Answer → Queue → Queue
forgot_begun [] (LinkMade handle ∷ owed) queue = record queue { begun = [] }
forgot_begun coming owed queue = queue
