-- A host as it stands before its controller: its commands, its ledger, the pieces of one PDU at a time, what it put out, and its upper
-- machine (Core 5.1, Volume 2 Part E, 4.1.1, 4.4, 5.4.2 and 7). What moves is data here: an order or a piece one way, one of six
-- answers or a piece the other.
use Rattle.std.specs.Prelude.{ℕ, ◌≡◌, ◌<◌, ◌+◌, ◌-◌, ◌*◌, ◌==◌, ◌&&◌, ◌||◌, not, nat_le, min, Bool, true, false, List, [], ◌∷◌, ◌++◌, drop, Option, Some, None, is_none, if◌then◌else◌}
use Rattle.std.specs.List.{list_any}
use Rattle.byteorder.specs.Endian.{little_number}
use Rattle.h4_framing.specs.Packets.{Packet, Command, Acl}
use Rattle.hci_packets.specs.AclWords.{flag_of}
use Rattle.hci_packets.specs.declared.acl.Boundary.TheVariants.{First}
use Rattle.hci_packets.specs.Commands.{PlainCommand, opcode_of, command_params}
use Rattle.hci_packets.specs.Commands as table
use Rattle.acl_fragments.specs.Pieces.{Piece, starts}
use Rattle.acl_fragments.specs.Cuts.{cut}
use Rattle.acl_fragments.specs.Answers.{Answer as Joined, Pdu, answer, held_after}
use Rattle.push_terms.specs.declared.word.Side.{Side}
use Rattle.push_terms.specs.declared.word.Side.TheVariants.{A, B}
use Rattle.radio_model.specs.Controllers.{Answer, Returned, Stated, Called, LinkMade, LinkGone, GivenBack, address, other_side}
use Rattle.world_model.specs.Machines.{LinkEvent, Up, Down, News, Linked, Heard, Upper}

-- ---- what a host puts out

pub data Order : Type 0 where
  Reset : Order
  ReadBuffers : Order
  ReadAddress : Order
  Scan : Order
  -- Create Connection, Accept Connection Request, Disconnect
  Page : Order
  Accept : Order
  End : (handle : ℕ) → Order
  Data : (handle : ℕ) (piece : Piece) → Order

-- The packet types of a page are DM1, DH1, DM3, DH3, DM5 and DH5, the page scan repetition mode is R1; a host stays the slave of
-- a link that it accepts; a link ends as the user ends it.
abbrev pub command_of : Side → Order → PlainCommand
command_of side Reset = table.Reset
command_of side ReadBuffers = table.ReadBufferSize
command_of side ReadAddress = table.ReadBdAddr
command_of side Scan = table.WriteScanEnable 0x03
command_of side Page = table.CreateConnection (address (other_side side)) 0xCC18 0x01 0x00 0x0000 0x00
command_of side Accept = table.AcceptConnection (address (other_side side)) 0x01
command_of side (End handle) = table.Disconnect handle 0x13
command_of side (Data handle piece) = table.Reset

abbrev pub order_packet : Side → Order → Packet
order_packet side (Data handle piece) = Acl (handle + 0x1000 * flag_of piece.boundary) piece.octets
order_packet side order = Command (opcode_of (command_of side order)) (command_params (command_of side order))

abbrev pub opcode : Order → ℕ
opcode order = opcode_of (command_of A order)

-- Connection Complete is awaited from these on
abbrev pub asks : Order → Bool
asks Page = true
asks Accept = true
asks order = false

abbrev pub is_end : Order → Bool
is_end (End handle) = true
is_end order = false

-- host b lets itself be found and paged
abbrev pub start_orders : Side → List Order
start_orders A = Reset ∷ ReadBuffers ∷ ReadAddress ∷ []
start_orders B = Reset ∷ ReadBuffers ∷ ReadAddress ∷ Scan ∷ []

-- ---- a host

pub record Station (S : Type 0) : Type 0 where
  pub upper : S
  -- the commands that wait to be put out, and the number of the one whose answer is awaited
  pub waiting : List Order
  pub awaited : Option ℕ
  -- the octets that a packet carries at most, the buffers of the controller, and the packets on the link that it has not given back
  pub size : ℕ
  pub total : ℕ
  pub outstanding : ℕ
  -- whether a Connection Complete is awaited, and the handle of the link that is up
  pub asked : Bool
  pub link : Option ℕ
  -- whether it has ended that link already: Disconnection Complete is awaited
  pub ending : Bool
  -- the octets of the PDU that is coming in, and the pieces of the one that is going out
  pub joining : List ℕ
  pub pieces : List Piece
  -- what was put out and has not moved
  pub out : List Order

abbrev pub first_station : {S G : Type 0} → Upper S G → Side → Station S
first_station U side = record {
  upper = U.first;
  waiting = start_orders side;
  awaited = None;
  size = 27;
  total = 0;
  outstanding = 0;
  asked = false;
  link = None;
  ending = false;
  joining = [];
  pieces = [];
  out = [];
}

-- a host takes PDUs of at most so many octets, the header included
abbrev pub longest_pdu : ℕ
longest_pdu = 32775

-- ---- what a host does by itself

-- where no piece waits and a buffer is free, the machine is asked for its next PDU
pub record Takes {S G : Type 0} (U : Upper S G) (old new : Station S) : Type 0 where
  pub handle : ℕ
  pub link : old.link ≡ Some handle
  pub none_waits : old.pieces ≡ []
  pub free : old.outstanding < old.total
  pub pdu : List ℕ
  pub after : S
  pub next : U.next old.upper ≡ Some (pdu, after)
  pub new_is : new ≡ record old { upper = after; pieces = cut old.size First pdu }

-- a piece is put out while a buffer is free
pub record Puts {S : Type 0} (old new : Station S) : Type 0 where
  pub handle : ℕ
  pub link : old.link ≡ Some handle
  pub free : old.outstanding < old.total
  pub piece : Piece
  pub rest : List Piece
  pub first : old.pieces ≡ piece ∷ rest
  pub new_is : new ≡ record old { outstanding = old.outstanding + 1; pieces = rest; out = old.out ++ Data handle piece ∷ [] }

-- a link is asked for once, where the machine wants one and none is up
pub record Asks {S G : Type 0} (U : Upper S G) (old new : Station S) : Type 0 where
  pub wants : U.wants_link old.upper ≡ true
  pub off : old.link ≡ None
  pub unasked : old.asked ≡ false
  pub none_waits : list_any asks old.waiting ≡ false
  pub new_is : new ≡ record old { waiting = old.waiting ++ Page ∷ [] }

-- the link is ended once, where the machine ends it and has said all
pub record Leaves {S G : Type 0} (U : Upper S G) (old new : Station S) : Type 0 where
  pub handle : ℕ
  pub link : old.link ≡ Some handle
  pub none_waits : old.pieces ≡ []
  pub none_next : U.next old.upper ≡ None
  pub leaves : U.leaves_link old.upper ≡ true
  pub unended : old.ending ≡ false
  pub none_ends : list_any is_end old.waiting ≡ false
  pub new_is : new ≡ record old { waiting = old.waiting ++ End handle ∷ []; ending = true }

-- a command is put out, where no answer is awaited
pub record Commands {S : Type 0} (old new : Station S) : Type 0 where
  pub order : Order
  pub rest : List Order
  pub first : old.waiting ≡ order ∷ rest
  pub none_awaited : old.awaited ≡ None
  pub new_is : new ≡ record old { waiting = rest; awaited = Some (opcode order); asked = old.asked || asks order; out = old.out ++ order ∷ [] }

pub data Effort : Type 0 where
  Taking : Effort
  Putting : Effort
  Asking : Effort
  Leaving : Effort
  Commanding : Effort

abbrev pub MakesEffort : {S G : Type 0} → Upper S G → Side → Effort → Station S → Station S → Type 0
MakesEffort U side Taking old new = Takes U old new
MakesEffort U side Putting old new = Puts old new
MakesEffort U A Asking old new = Asks U old new
MakesEffort U B Asking old new = ⊥
MakesEffort U side Leaving old new = Leaves U old new
MakesEffort U side Commanding old new = Commands old new

-- it can do nothing more by itself
abbrev pub IsStopped : {S G : Type 0} → Upper S G → Side → Station S → Type 0
IsStopped {S} U side station = (effort : Effort) (next : Station S) → MakesEffort U side effort station next → ⊥

-- ---- what comes into a host

abbrev pub is_handle : ℕ → Option ℕ → Bool
is_handle handle None = false
is_handle handle (Some link) = link == handle

-- the PDU that a piece completes
abbrev pub whole_in : Joined → List (List ℕ)
whole_in (Pdu channel octets) = octets ∷ []
whole_in joined = []

abbrev pub gives : ℕ → List ℕ → Piece → List (List ℕ)
gives limit held piece = whole_in (answer limit held (starts piece.boundary) piece.octets)

abbrev pub holds : ℕ → List ℕ → Piece → List ℕ
holds limit held piece = held_after limit held (starts piece.boundary) piece.octets

abbrev pub hears_each : {S G : Type 0} → Upper S G → List G → List (List ℕ) → S → S
hears_each U answers [] upper = upper
hears_each U answers (pdu ∷ pdus) upper = hears_each U answers pdus (U.hear answers (Heard pdu) upper)

-- a piece on the link that is up
abbrev pub hears_piece : {S G : Type 0} → Upper S G → List G → ℕ → Piece → Station S → Station S
hears_piece U answers handle piece station =
    if is_handle handle station.link
    then record station { upper = hears_each U answers (gives longest_pdu station.joining piece) station.upper; joining = holds longest_pdu station.joining piece }
    else station

-- a command is answered
abbrev pub answered : ℕ → Option ℕ → Option ℕ
answered number None = None
answered number (Some awaited) = if awaited == number then None else Some awaited

-- the buffers are learnt before there is a link: at most 64, of 27 to 1,021 octets
abbrev pub learns : {S : Type 0} → List ℕ → Station S → Station S
learns params station =
    if is_none station.link && nat_le 27 (little_number 2 (drop 1 params))
    then record station { size = min (little_number 2 (drop 1 params)) 1021; total = min (little_number 2 (drop 4 params)) 64 }
    else station

-- host b accepts a call while no link is up and none is awaited
abbrev pub is_server : Side → Bool
is_server A = false
is_server B = true

abbrev pub may_accept : {S : Type 0} → Side → Station S → Bool
may_accept side station = is_server side && (is_none station.link && (not station.asked && not (list_any asks station.waiting)))

abbrev pub after_answer : {S : Type 0} → Side → Answer → Station S → Station S
after_answer side (Returned number params) station =
    if number == 0x1005 then learns params (record station { awaited = answered number station.awaited }) else record station { awaited = answered number station.awaited }
after_answer side (Stated number) station = record station { awaited = answered number station.awaited }
after_answer side Called station = if may_accept side station then record station { waiting = station.waiting ++ Accept ∷ [] } else station
after_answer side (LinkMade handle) station =
    if station.asked then (if is_none station.link then record station { asked = false; link = Some handle; ending = false; joining = [] } else record station { asked = false }) else station
after_answer side (LinkGone handle reason) station =
    if is_handle handle station.link then record station { outstanding = 0; link = None; ending = false; joining = []; pieces = [] } else station
after_answer side (GivenBack handle count) station =
    if is_handle handle station.link && nat_le count station.outstanding then record station { outstanding = station.outstanding - count } else station

-- what its machine is told
abbrev pub event_in : {S : Type 0} → Answer → Station S → Option LinkEvent
event_in (LinkMade handle) station = if station.asked && is_none station.link then Some Up else None
event_in (LinkGone handle reason) station = if is_handle handle station.link then Some (Down reason) else None
event_in answer station = None

abbrev pub upper_told : {S G : Type 0} → Upper S G → List G → Option LinkEvent → S → S
upper_told U answers None upper = upper
upper_told U answers (Some event) upper = U.hear answers (Linked event) upper

abbrev pub hears_answer : {S G : Type 0} → Upper S G → List G → Side → Answer → Station S → Station S
hears_answer U answers side answer station = record (after_answer side answer station) { upper = upper_told U answers (event_in answer station) station.upper }

abbrev pub told : {S G : Type 0} → Upper S G → List G → News → Station S → Station S
told U answers news station = record station { upper = U.hear answers news station.upper }
