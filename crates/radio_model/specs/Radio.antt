-- The simulated radio: two controllers and the air between them (this project's own).
use Rattle.std.specs.Prelude.{ℕ, ◌+◌, ◌%◌, ◌==◌, ◌&&◌, not, nat_lt, nat_le, Bool, true, false, List, [], ◌∷◌, ◌++◌, length, map, Option, Some, None, is_none, slice_index, if◌then◌else◌}
use Rattle.byteorder.specs.Endian.{little_number}
use Rattle.bt_base.specs.Octets.{le16}
use Rattle.h4_framing.specs.Packets.{Packet, Command, Acl, Sync, Event}
use Rattle.hci_packets.specs.Commands.{command_refusal}
use Rattle.acl_fragments.specs.Pieces.{Piece, starts, channel_of}
use Rattle.acl_fragments.specs.Answers.{answer, held_after}
use Rattle.capture.specs.declared.flow.Flow.TheVariants.{Out}
use Rattle.capture.specs.Pdus.{piece_of, whole_of}
use Rattle.push_terms.specs.declared.word.Side.{Side}
use Rattle.push_terms.specs.declared.word.Side.TheVariants as sides
use Rattle.push_terms.specs.declared.word.Way.{Way}
use Rattle.push_terms.specs.declared.word.Word.{Word}
use Rattle.radio_model.specs.declared.fate.Fate.{Fate}
use Rattle.radio_model.specs.declared.deed.Deed.{Deed}
use Rattle.radio_model.specs.declared.deed.Deed.TheVariants.{Nothing, Meets, Fires, FiresBoth, Breaks, Cancels}
use Rattle.radio_model.specs.Fates.{Meeting, meets}
use Rattle.radio_model.specs.Words.{sender, receiver, deed_of, served_by}
use Rattle.radio_model.specs.Controllers.{Answer, Returned, Stated, Called, LinkMade, LinkGone, address, Controller, new_controller, owing, after_giving_back, first_packet, after_handing, is_empty}

-- the first frame; nothing where there is none
abbrev pub first_or_nothing : List (List ℕ) → List ℕ
first_or_nothing [] = []
first_or_nothing (frame ∷ frames) = frame

-- how far the two devices are with a link
pub data Phase : Type 0 where
  -- there is none, and none is asked for
  Apart : Phase
  -- device a pages device b, which does not hear it yet
  Paging : Phase
  -- the host of device b was asked
  Requested : Phase
  -- there is a link
  Together : Phase

abbrev pub is_apart : Phase → Bool
is_apart Apart = true
is_apart phase = false

abbrev pub is_paging : Phase → Bool
is_paging Paging = true
is_paging phase = false

abbrev pub is_requested : Phase → Bool
is_requested Requested = true
is_requested phase = false

abbrev pub is_together : Phase → Bool
is_together Together = true
is_together phase = false

pub record Radio : Type 0 where
  -- the length and the number of the ACL packets that each controller takes
  pub size : ℕ
  pub count : ℕ
  pub a : Controller
  pub b : Controller
  pub phase : Phase
  -- how many links there were so far
  pub number : ℕ
  -- the direction that a `pass` served last
  pub served : Option Way

abbrev pub new_radio : ℕ → ℕ → Radio
new_radio size count = record { size = size; count = count; a = new_controller; b = new_controller; phase = Apart; number = 0; served = None }

abbrev pub controller : Side → Radio → Controller
controller sides.A radio = radio.a
controller sides.B radio = radio.b

abbrev pub with_controller : Side → Controller → Radio → Radio
with_controller sides.A one radio = record radio { a = one }
with_controller sides.B one radio = record radio { b = one }

-- the controller of a side owes its host something more
abbrev pub owes : Side → List Answer → Radio → Radio
owes side more radio = with_controller side (owing more (controller side radio)) radio

-- ---- commands of a host

-- Nothing is left of an earlier link, neither in the air nor in what is owed. A handle has at most 0EFF.
abbrev pub may_page : Radio → Bool
may_page radio =
    is_apart radio.phase && (not radio.a.up && (not radio.b.up && ((radio.a.told == radio.number) && ((radio.b.told == radio.number) && nat_lt radio.number 0x0EFF))))

-- Page Scan is bit 1 of Scan Enable (7.3.18)
abbrev pub is_reached : Radio → Bool
is_reached radio = is_paging radio.phase && nat_le 2 radio.b.scan

-- a page waits until device b scans for pages; then the host of b is asked
abbrev pub after_reaching : Radio → Radio
after_reaching radio = if is_reached radio then record radio { b = owing (Called ∷ []) radio.b; phase = Requested } else radio

-- Create Connection: device a pages device b, whatever the address; device b pages nobody
abbrev pub after_paging : Side → Radio → Radio
after_paging sides.A radio = if may_page radio then after_reaching (record radio { phase = Paging }) else radio
after_paging sides.B radio = radio

-- a new link: both hosts are told
abbrev pub joined : Radio → Radio
joined radio =
    record radio { a = owing (LinkMade (radio.number + 1) ∷ []) radio.a; b = owing (LinkMade (radio.number + 1) ∷ []) radio.b; phase = Together; number = radio.number + 1 }

-- Accept Connection Request: the host of b takes the link that it was asked for
abbrev pub after_accepting : Side → Radio → Radio
after_accepting sides.A radio = radio
after_accepting sides.B radio = if is_requested radio.phase then joined radio else radio

-- the link ends for one host, with its reason; all its frames leave the air
abbrev pub parting : (handle reason : ℕ) → Controller → Controller
parting handle reason controller = record controller { waiting = []; owed = controller.owed ++ LinkGone handle reason ∷ [] }

abbrev pub parted : (for_a for_b : ℕ) → Radio → Radio
parted for_a for_b radio = record radio { a = parting radio.number for_a radio.a; b = parting radio.number for_b radio.b; phase = Apart }

-- the host of that side knows of the link in the air, and that it is up
abbrev pub knows_link : Side → Radio → Bool
knows_link side radio = is_together radio.phase && ((controller side radio).up && ((controller side radio).told == radio.number))

-- Disconnect: the reason is 16 for the host that ended the link, and 13 for the other one
abbrev pub parted_by : Side → Radio → Radio
parted_by sides.A radio = parted 0x16 0x13 radio
parted_by sides.B radio = parted 0x13 0x16 radio

-- one for another handle, or for a link that is gone already, has no effect
abbrev pub after_disconnecting : Side → ℕ → Radio → Radio
after_disconnecting side handle radio = if knows_link side radio && (handle == radio.number) then parted_by side radio else radio

-- Write Scan Enable
abbrev pub scanning : Side → ℕ → Radio → Radio
scanning side value radio = with_controller side (record (controller side radio) { scan = value }) radio

-- what the other commands return; a command without a row is not answered
abbrev pub returned : Side → ℕ → Radio → List Answer
returned side opcode radio =
    if opcode == 0x0C03 then Returned opcode (0 ∷ []) ∷ []
    else (if opcode == 0x1005 then Returned opcode (0 ∷ (le16 radio.size ++ (0 ∷ (le16 radio.count ++ le16 0)))) ∷ []
    else (if opcode == 0x1009 then Returned opcode (0 ∷ address side) ∷ [] else []))

abbrev pub after_row : Side → ℕ → List ℕ → Radio → Radio
after_row side opcode params radio =
    if opcode == 0x0405 then after_paging side (owes side (Stated opcode ∷ []) radio)
    else (if opcode == 0x0406 then after_disconnecting side (little_number 2 params) (owes side (Stated opcode ∷ []) radio)
    else (if opcode == 0x0409 then after_accepting side (owes side (Stated opcode ∷ []) radio)
    else (if opcode == 0x0C1A then after_reaching (owes side (Returned opcode (0 ∷ []) ∷ []) (scanning side (slice_index params 0) radio))
    else owes side (returned side opcode radio) radio)))

-- a command whose parameters are refused does nothing
abbrev pub after_command : Side → ℕ → List ℕ → Radio → Radio
after_command side opcode params radio = if is_none (command_refusal opcode params) then after_row side opcode params radio else radio

-- ---- ACL packets of a host

-- the longest frame: as long as its length field can say
abbrev pub frame_limit : ℕ
frame_limit = 65539

-- the piece that a packet carries on the link that the host knows of
abbrev pub piece_from : Controller → Packet → Option Piece
piece_from controller packet = if controller.up then piece_of controller.told packet else None

-- the frame that a piece completes, and what was begun after it
abbrev pub frames_by : List ℕ → Piece → List (List ℕ)
frames_by begun piece = map (λ pdu. pdu.octets) (whole_of Out (answer frame_limit begun (starts piece.boundary) piece.octets))

abbrev pub begun_after : List ℕ → Piece → List ℕ
begun_after begun piece = held_after frame_limit begun (starts piece.boundary) piece.octets

-- a frame that is complete waits behind the others, where its host knows of the link in the air; else it is dropped
abbrev pub with_piece : (flies : Bool) → Option Piece → Controller → Controller
with_piece flies None controller = controller
with_piece flies (Some piece) controller =
    record controller { begun = begun_after controller.begun piece; waiting = if flies then controller.waiting ++ frames_by controller.begun piece else controller.waiting }

-- A packet on the handle of the last link that the host was told of is taken. Where as many were taken as one event can
-- give back, they are given back first.
abbrev pub after_taking : ℕ → Controller → Controller
after_taking handle controller =
    if (handle == controller.told) && nat_le 1 controller.told
    then (if controller.taken == 65535
    then record (after_giving_back controller) { taken = 1 }
    else record controller { taken = controller.taken + 1 })
    else controller

abbrev pub after_acl : Side → ℕ → List ℕ → Radio → Radio
after_acl side word octets radio =
    with_controller side
    (after_taking (word % 0x1000) (with_piece (knows_link side radio) (piece_from (controller side radio) (Acl word octets)) (controller side radio)))
    radio

-- ---- what the radio does

-- a packet comes out of a host
abbrev pub after_packet : Side → Packet → Radio → Radio
after_packet side (Command opcode params) radio = after_command side opcode params radio
after_packet side (Acl word octets) radio = after_acl side word octets radio
after_packet side (Sync word octets) radio = radio
after_packet side (Event code params) radio = radio

-- all that its host offered was taken: the packets among it are given back
abbrev pub after_offer : Side → Radio → Radio
after_offer side radio = with_controller side (after_giving_back (controller side radio)) radio

-- the packet that comes to the host of a side next
abbrev pub next_packet : Side → Radio → Option Packet
next_packet side radio = first_packet side radio.number (controller side radio).coming (controller side radio).owed

-- it was handed to the host
abbrev pub after_answer : Side → Radio → Radio
after_answer side radio = with_controller side (after_handing (controller side radio)) radio

-- nothing is on its way to either host
abbrev pub is_idle : Controller → Bool
is_idle controller = is_empty controller.coming && is_empty controller.owed

abbrev pub is_quiet : Radio → Bool
is_quiet radio = is_idle radio.a && is_idle radio.b

-- ---- the words of a script

-- the frames that wait in a direction
abbrev pub frames : Way → Radio → List (List ℕ)
frames way radio = (controller (sender way) radio).waiting

-- the channel of the first of them, where it has a whole header: its receiver is asked whether it has a check word for it
abbrev pub first_channel : List (List ℕ) → Option ℕ
first_channel waiting = if nat_lt (length (first_or_nothing waiting)) 4 then None else Some (channel_of (first_or_nothing waiting))

abbrev pub channel : Way → Radio → Option ℕ
channel way radio = first_channel (frames way radio)

-- the first frame that waits in a direction meets its fate: what stays of it is still the first, and its pieces come to
-- the host that the direction leads to
abbrev pub hands : Way → Meeting → List (List ℕ) → Radio → Radio
hands way meeting rest radio =
    with_controller (receiver way) (record (controller (receiver way) radio) { coming = (controller (receiver way) radio).coming ++ meeting.pieces })
    (with_controller (sender way) (record (controller (sender way) radio) { waiting = meeting.stays ++ rest }) radio)

abbrev pub after_meeting : Way → Fate → (checked : Bool) → List (List ℕ) → Radio → Radio
after_meeting way fate checked [] radio = radio
after_meeting way fate checked (frame ∷ rest) radio = record (hands way (meets radio.size fate checked frame) rest radio) { served = served_by way fate radio.served }

-- what a word finds
abbrev pub found : Word → Radio → Deed
found word radio = deed_of word radio.served radio.a.waiting radio.b.waiting (is_together radio.phase)

-- The radio after what a word found: a broken link ends with reason 08 for both hosts. That timers fire, and that a push
-- is cancelled, is done by the hosts.
abbrev pub after_deed : (checked : Bool) → Deed → Radio → Radio
after_deed checked Nothing radio = radio
after_deed checked (Meets way fate) radio = after_meeting way fate checked (frames way radio) radio
after_deed checked (Fires side) radio = radio
after_deed checked FiresBoth radio = radio
after_deed checked Breaks radio = parted 0x08 0x08 radio
after_deed checked Cancels radio = radio
