-- One end of a three-wire line, as a small value and short functions over it (this project's own profile of Core
-- 5.1, Volume 4 Part D, sections 6 and 8).
use Rattle.std.specs.Prelude.{ℕ, ◌+◌, ◌-◌, ◌%◌, ◌==◌, Bool, true, false, ◌&&◌, List, [], ◌∷◌, ◌++◌, length, drop, min, max, nat_le, nat_lt, slice_get, Option, Some, None, if◌then◌else◌}
use Rattle.wire_packets.specs.Packets.{Packet}
use Rattle.wire_model.specs.declared.link.Stage.{Stage}
use Rattle.wire_model.specs.declared.link.Stage.TheVariants.{Uninitialized, Initialized, Active, Reset}
use Rattle.wire_model.specs.declared.link.LinkMessage.{LinkMessage}
use Rattle.wire_model.specs.declared.link.LinkMessage.TheVariants.{Sync, SyncResponse, Config, ConfigResponse}

-- a unit: the packet type, and the payload that goes with it
pub record Unit : Type 0 where
  pub kind : ℕ
  pub octets : List ℕ

-- ---- link control messages and their octets

abbrev pub link_control : ℕ
link_control = 15

-- 8.4 to 8.7
abbrev pub message_octets : LinkMessage → List ℕ
message_octets Sync = 0x01 ∷ 0x7E ∷ []
message_octets SyncResponse = 0x02 ∷ 0x7D ∷ []
message_octets (Config window) = 0x03 ∷ 0xFC ∷ window ∷ []
message_octets (ConfigResponse window) = 0x04 ∷ 0x7B ∷ window ∷ []

-- the window in bits 0 to 2 of a configuration field (8.8); without a field it is 1. Octets behind the field are
-- not read.
abbrev pub window_in : List ℕ → ℕ
window_in [] = 1
window_in (field ∷ rest) = field % 8

-- SYNC and SYNC RESPONSE have no octets behind the first two
abbrev pub alone : LinkMessage → List ℕ → Option LinkMessage
alone message [] = Some message
alone message (octet ∷ rest) = None

abbrev pub message_by : ℕ → ℕ → List ℕ → Option LinkMessage
message_by first second rest =
    if first == 0x01 && second == 0x7E then alone Sync rest
    else if first == 0x02 && second == 0x7D then alone SyncResponse rest
    else if first == 0x03 && second == 0xFC then Some (Config (window_in rest))
    else if first == 0x04 && second == 0x7B then Some (ConfigResponse (window_in rest))
    else None

-- the message that the payload of a link control packet is; other payloads are none
abbrev pub message_of : List ℕ → Option LinkMessage
message_of [] = None
message_of (first ∷ []) = None
message_of (first ∷ second ∷ rest) = message_by first second rest

-- ---- the value

pub record Wire : Type 0 where
  -- the window that this end was made with, and the one in use
  pub own : ℕ
  pub window : ℕ
  pub stage : Stage
  -- link control messages that wait to be sent, the oldest first
  pub waiting : List LinkMessage
  -- the SeqNo of the first unit that is not acknowledged, and all these units in order
  pub first : ℕ
  pub unacked : List Unit
  -- how many of these were ever sent, and how many stand before the next to be sent
  pub given : ℕ
  pub next : ℕ
  -- the SeqNo that is expected of the other end, and whether a packet heard is still to be answered
  pub expected : ℕ
  pub answers : Bool

-- at its start an end sends SYNC
abbrev pub new_wire : ℕ → Wire
new_wire own = record { own = own; window = own; stage = Uninitialized; waiting = Sync ∷ []; first = 0; unacked = []; given = 0; next = 0; expected = 0; answers = false }

abbrev pub is_active : Stage → Bool
is_active Uninitialized = false
is_active Initialized = false
is_active Active = true
is_active Reset = false

abbrev pub is_reset : Stage → Bool
is_reset Uninitialized = false
is_reset Initialized = false
is_reset Active = false
is_reset Reset = true

-- ---- a unit is taken

abbrev pub submitted : Unit → Wire → Wire
submitted unit w = record w { unacked = w.unacked ++ unit ∷ [] }

-- ---- link control is to be sent

-- the greatest number of messages that wait
abbrev pub most_waiting : ℕ
most_waiting = 16

-- one more message waits, unless as many do as may
abbrev pub waits : LinkMessage → Wire → Wire
waits message w = if nat_lt (length w.waiting) most_waiting then record w { waiting = w.waiting ++ message ∷ [] } else w

-- ---- timer

abbrev pub ticked_at : Stage → Wire → Wire
ticked_at Uninitialized w = waits Sync w
ticked_at Initialized w = waits (Config w.own) w
ticked_at Active w = record w { next = 0 }
ticked_at Reset w = w

abbrev pub ticked : Wire → Wire
ticked w = ticked_at w.stage w

-- ---- the next packet

pub record Said : Type 0 where
  pub packet : Packet
  pub after : Wire

abbrev pub control_packet : List ℕ → Packet
control_packet payload = record { seq = 0; ack = 0; reliable = false; kind = link_control; payload = payload }

abbrev pub link_packet : LinkMessage → Packet
link_packet message = control_packet (message_octets message)

abbrev pub unit_packet : ℕ → ℕ → Unit → Packet
unit_packet seq ack unit = record { seq = seq; ack = ack; reliable = true; kind = unit.kind; payload = unit.octets }

abbrev pub ack_packet : ℕ → Packet
ack_packet ack = record { seq = 0; ack = ack; reliable = false; kind = 0; payload = [] }

abbrev pub says_ack : Bool → Wire → Option Said
says_ack true w = Some (record { packet = ack_packet w.expected; after = record w { answers = false } })
says_ack false w = None

-- a packet that carries a unit is an answer too
abbrev pub says_unit : Option Unit → Wire → Option Said
says_unit (Some unit) w = Some (record { packet = unit_packet ((w.first + w.next) % 8) w.expected unit; after = record w { given = max w.given (w.next + 1); next = w.next + 1; answers = false } })
says_unit None w = says_ack w.answers w

abbrev pub says_active : Stage → Wire → Option Said
says_active Uninitialized w = None
says_active Initialized w = None
says_active Active w = says_unit (slice_get w.unacked w.next) w
says_active Reset w = None

abbrev pub says_link : List LinkMessage → Wire → Option Said
says_link [] w = says_active w.stage w
says_link (message ∷ rest) w = Some (record { packet = link_packet message; after = record w { waiting = rest } })

-- link control goes before all else; an end that was reset says nothing
abbrev pub says : Wire → Option Said
says w = if is_reset w.stage then None else says_link w.waiting w

-- ---- a packet is heard

pub record Heard : Type 0 where
  pub after : Wire
  -- the unit that was accepted
  pub unit : Option Unit

abbrev pub quiet : Wire → Heard
quiet w = record { after = w; unit = None }

-- the lesser of two windows, 0 counting as 1
abbrev pub lesser : ℕ → ℕ → ℕ
lesser own field = min own (max 1 field)

abbrev pub hears_sync : Stage → Wire → Wire
hears_sync Uninitialized w = waits SyncResponse w
hears_sync Initialized w = waits SyncResponse w
hears_sync Active w = record w { stage = Reset }
hears_sync Reset w = w

abbrev pub hears_sync_response : Stage → Wire → Wire
hears_sync_response Uninitialized w = waits (Config w.own) (record w { stage = Initialized })
hears_sync_response Initialized w = w
hears_sync_response Active w = w
hears_sync_response Reset w = w

abbrev pub hears_config : Stage → ℕ → Wire → Wire
hears_config Uninitialized field w = w
hears_config Initialized field w = waits (ConfigResponse (lesser w.own field)) w
hears_config Active field w = waits (ConfigResponse (lesser w.own field)) w
hears_config Reset field w = w

abbrev pub hears_config_response : Stage → ℕ → Wire → Wire
hears_config_response Uninitialized field w = w
hears_config_response Initialized field w = record w { stage = Active; window = lesser w.own field }
hears_config_response Active field w = w
hears_config_response Reset field w = w

abbrev pub hears_message : Option LinkMessage → Wire → Wire
hears_message None w = w
hears_message (Some Sync) w = hears_sync w.stage w
hears_message (Some SyncResponse) w = hears_sync_response w.stage w
hears_message (Some (Config field)) w = hears_config w.stage field w
hears_message (Some (ConfigResponse field)) w = hears_config_response w.stage field w

-- how many steps a number modulo 8 lies past another
abbrev pub past : (from to : ℕ) → ℕ
past from to = (to + 8 - from) % 8

abbrev pub acknowledged : ℕ → Wire → Wire
acknowledged k w = record w { first = (w.first + k) % 8; unacked = drop k w.unacked; given = w.given - k; next = w.next - k }

-- an AckNo acknowledges the packets before it, if it is among the numbers from the first unacknowledged one to the
-- next to be sent for the first time (6.5)
abbrev pub hears_ack : ℕ → Wire → Wire
hears_ack ack w = if nat_le (past w.first ack) w.given then acknowledged (past w.first ack) w else w

abbrev pub is_unit_kind : ℕ → Bool
is_unit_kind kind = nat_le 1 kind && nat_le kind 4

-- exactly the expected number is accepted (6.4); each unit that is heard is answered
abbrev pub takes_number : Bool → Unit → Wire → Heard
takes_number true unit w = record { after = record w { expected = (w.expected + 1) % 8; answers = true }; unit = Some unit }
takes_number false unit w = quiet (record w { answers = true })

abbrev pub takes_unit : Bool → Packet → Wire → Heard
takes_unit true packet w = takes_number (packet.seq == w.expected) (record { kind = packet.kind; octets = packet.payload }) w
takes_unit false packet w = quiet w

abbrev pub hears_numbers : Stage → Packet → Wire → Heard
hears_numbers Uninitialized packet w = quiet w
hears_numbers Initialized packet w = quiet w
hears_numbers Active packet w = takes_unit (packet.reliable && is_unit_kind packet.kind) packet (hears_ack packet.ack w)
hears_numbers Reset packet w = quiet w

abbrev pub hears : Packet → Wire → Heard
hears packet w = if packet.kind == link_control then quiet (hears_message (message_of packet.payload) w) else hears_numbers w.stage packet w

-- how many packets an end may say at most before it hears or takes anything
abbrev pub flag : Bool → ℕ
flag true = 1
flag false = 0

abbrev pub debts : Wire → ℕ
debts w = length w.waiting + (length w.unacked - w.next) + flag w.answers
