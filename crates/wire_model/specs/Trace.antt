-- The trace of a line: one entry for each packet that was put on it, and what was carried (this project's own).
use Rattle.std.specs.Prelude.{ℕ, ◌+◌, ◌%◌, ◌==◌, ◌≡◌, ◌<◌, Bool, true, false, ◌&&◌, List, [], ◌∷◌, ◌++◌, length, take, Option, Some, None, if◌then◌else◌}
use Rattle.std.specs.List.{flat_map, filter_map}
use Rattle.bt_base.specs.Octets.{be16}
use Rattle.wire_packets.specs.Packets.{Packet}
use Rattle.wire_model.specs.declared.link.Way.{Way}
use Rattle.wire_model.specs.declared.link.Way.TheVariants.{Forth, Back}
use Rattle.wire_model.specs.declared.link.LinkMessage.{LinkMessage}
use Rattle.wire_model.specs.declared.link.LinkMessage.TheVariants.{Sync, SyncResponse, Config, ConfigResponse}
use Rattle.wire_model.specs.Line.{line}
use Rattle.wire_model.specs.Machine.{message_of, link_control}
use Rattle.wire_model.specs.Machine as machine
use Rattle.wire_model.specs.Draws.{loses, drawn_on}

-- a packet on the line: which way it went, whether it was lost
pub record Crossing : Type 0 where
  pub way : Way
  pub lost : Bool
  pub packet : Packet

-- 08 from the first end to the second, 09 the same and lost, 0A from the second to the first, 0B the same and lost
abbrev pub tag_of : Way → Bool → ℕ
tag_of Forth false = 0x08
tag_of Forth true = 0x09
tag_of Back false = 0x0A
tag_of Back true = 0x0B

-- an entry: the tag, the length with the high octet first, the octets on the line
abbrev pub entry : Crossing → List ℕ
entry crossing = tag_of crossing.way crossing.lost ∷ (be16 (length (line crossing.packet)) ++ line crossing.packet)

abbrev pub entries : List Crossing → List ℕ
entries crossings = flat_map entry crossings

-- ---- what was carried

-- the packet that came to the second end
abbrev pub came_to_second : Way → Bool → Packet → Option Packet
came_to_second Forth false packet = Some packet
came_to_second Forth true packet = None
came_to_second Back lost packet = None

abbrev pub came : List Crossing → List Packet
came crossings = filter_map (λ (c : Crossing). came_to_second c.way c.lost c.packet) crossings

abbrev pub is_response : Option LinkMessage → Bool
is_response None = false
is_response (Some Sync) = false
is_response (Some SyncResponse) = false
is_response (Some (Config window)) = false
is_response (Some (ConfigResponse window)) = true

-- a packet is CONFIG RESPONSE
abbrev pub is_config_response : Packet → Bool
is_config_response packet = (packet.kind == link_control) && is_response (message_of packet.payload)

-- the packets behind the first CONFIG RESPONSE
abbrev pub behind_response : List Packet → List Packet
behind_response [] = []
behind_response (packet ∷ packets) = if is_config_response packet then packets else behind_response packets

-- a reliable packet of that number
abbrev pub has_number : ℕ → Packet → Bool
has_number number packet = packet.reliable && (packet.seq == number % 8)

-- the units of the first packet of that number, of the first behind it of the next number, and so on
abbrev pub picked : ℕ → List Packet → List machine.Unit
picked number [] = []
picked number (packet ∷ packets) =
    if has_number number packet then record { kind = packet.kind; octets = packet.payload } ∷ picked (number + 1) packets else picked number packets

-- the units that were carried to the second end
abbrev pub carried : List Crossing → List machine.Unit
carried crossings = picked 0 (behind_response (came crossings))

-- ---- and what was lost

-- each packet takes one draw, and is lost exactly where that says so
abbrev pub Obeys : Option ℕ → List Crossing → Type 0
Obeys draws [] = Unit {0}
Obeys draws (crossing ∷ crossings) = (crossing.lost ≡ loses draws) × Obeys (drawn_on draws) crossings

-- a unit as it stands on a UART: its type, which is its indicator, and its octets
abbrev pub unit_octets : machine.Unit → List ℕ
unit_octets unit = unit.kind ∷ unit.octets

abbrev pub units_octets : List machine.Unit → List ℕ
units_octets units = flat_map unit_octets units

-- the beginning of an entry, and not the whole of it
abbrev pub IsCut : List ℕ → Type 0
IsCut octets = (crossing : Crossing) × (n : ℕ) × (n < length (entry crossing)) × (octets ≡ take n (entry crossing))
