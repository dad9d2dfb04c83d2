-- The packets of the three-wire transport and their octets (Core 5.1, Volume 4 Part D, section 4).
use Rattle.std.specs.Prelude.{ℕ, ◌+◌, ◌-◌, ◌*◌, ◌/◌, ◌%◌, ◌<◌, ◌≤◌, ◌≡◌, ◌⊎◌, Bool, true, false, List, ◌∷◌, length}
use Rattle.bt_base.specs.Octets.{IsOctets}
use Rattle.wire_packets.specs.declared.packet.WirePacket.{WirePacket}

-- what a packet says, apart from where its payload lies in memory
pub record Packet : Type 0 where
  -- SeqNo (4.1)
  pub seq : ℕ
  -- AckNo (4.2)
  pub ack : ℕ
  -- whether it is numbered (4.4)
  pub reliable : Bool
  -- the packet type (4.5)
  pub kind : ℕ
  pub payload : List ℕ

abbrev pub plain : WirePacket → Packet
plain packet = record { seq = packet.seq; ack = packet.ack; reliable = packet.reliable; kind = packet.kind; payload = packet.payload.now }

-- the types that are spoken here: 0 acknowledgement, 1 command, 2 ACL data, 3 synchronous data, 4 event, 15 link
-- control (4.5)
abbrev pub IsKind : ℕ → Type 0
IsKind kind = (kind ≤ 4) ⊎ (kind ≡ 15)

-- its numbers fit their fields, it is of a type that is spoken, and its length fits twelve bits
pub record IsPacket (packet : Packet) : Type 0 where
  pub seq_fits : packet.seq < 8
  pub ack_fits : packet.ack < 8
  pub kind_known : IsKind packet.kind
  pub length_fits : length packet.payload ≤ 4095
  pub are_octets : IsOctets packet.payload

abbrev pub bit : Bool → ℕ
bit true = 1
bit false = 0

-- the first octet: SeqNo in bits 0 to 2, AckNo in bits 3 to 5, no data integrity check in bit 6, reliable in bit 7
abbrev pub numbers_of : Packet → ℕ
numbers_of packet = packet.seq + 8 * packet.ack + 128 * bit packet.reliable

-- the second octet: the type in bits 0 to 3, the low four bits of the payload's length in bits 4 to 7
abbrev pub kind_of : Packet → ℕ
kind_of packet = packet.kind + 16 * (length packet.payload % 16)

-- the third octet: the high eight bits of that length (4.6)
abbrev pub high_length_of : Packet → ℕ
high_length_of packet = length packet.payload / 16

-- the octet with which four add up to FF, modulo 256 (4.7)
abbrev pub checksum : ℕ → ℕ → ℕ → ℕ
checksum first second third = 255 - (first + second + third) % 256

-- the octets of a packet: its header and its payload
abbrev pub spelling : Packet → List ℕ
spelling packet = numbers_of packet ∷ kind_of packet ∷ high_length_of packet ∷ checksum (numbers_of packet) (kind_of packet) (high_length_of packet) ∷ packet.payload
