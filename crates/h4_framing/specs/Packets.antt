-- What a packet of the HCI is, and the one way in which the UART transport spells it.
use Rattle.std.specs.Prelude.{ℕ, ◌<◌, ◌≤◌, ◌^◌, List, ◌∷◌, ◌++◌, length}
use Rattle.std.specs.List.{flat_map}
use Rattle.bt_base.specs.Octets.{IsOctets, le16}
use Rattle.h4_framing.specs.declared.unit.Unit.{Unit as Lent}
use Rattle.h4_framing.specs.declared.unit.Unit.TheVariants as lent

-- a packet without where it lies in memory (Core 5.1, Volume 2 Part E, 5.4)
pub data Packet : Type 0 where
  Command : (opcode : ℕ) (params : List ℕ) → Packet
  Acl : (word : ℕ) (octets : List ℕ) → Packet
  Sync : (word : ℕ) (octets : List ℕ) → Packet
  Event : (code : ℕ) (params : List ℕ) → Packet

-- the packet of a unit that is lent
abbrev pub packet : Lent → Packet
packet (lent.Command opcode params) = Command opcode params.now
packet (lent.Acl word octets) = Acl word octets.now
packet (lent.Sync word octets) = Sync word octets.now
packet (lent.Event code params) = Event code params.now

-- the octets of a packet on the UART (Volume 4 Part A, 2): its indicator, its numbers with the low octet
-- first, the length of what follows, and what follows
abbrev pub spelling : Packet → List ℕ
spelling (Command opcode params) = 1 ∷ (le16 opcode ++ length params ∷ params)
spelling (Acl word octets) = 2 ∷ (le16 word ++ le16 (length octets) ++ octets)
spelling (Sync word octets) = 3 ∷ (le16 word ++ length octets ∷ octets)
spelling (Event code params) = 4 ∷ code ∷ length params ∷ params

-- the octets of packets, one after the other
abbrev pub spellings : List Packet → List ℕ
spellings packets = flat_map spelling packets

-- its number is in its range
abbrev pub HasNumber : Packet → Type 0
HasNumber (Command opcode params) = opcode < 2 ^ 16
HasNumber (Acl word octets) = word < 2 ^ 16
HasNumber (Sync word octets) = word < 2 ^ 16
HasNumber (Event code params) = code < 2 ^ 8

-- what follows the length field is no longer than the field can say
abbrev pub FitsLengthField : Packet → Type 0
FitsLengthField (Command opcode params) = length params < 2 ^ 8
FitsLengthField (Acl word octets) = length octets < 2 ^ 16
FitsLengthField (Sync word octets) = length octets < 2 ^ 8
FitsLengthField (Event code params) = length params < 2 ^ 8

-- each number and each octet is in its range, and an ACL packet has no more octets than the limit
abbrev pub IsPacket : ℕ → Packet → Type 0
IsPacket limit (Command opcode params) = (opcode < 2 ^ 16) × (length params < 2 ^ 8) × IsOctets params
IsPacket limit (Acl word octets) = (word < 2 ^ 16) × (length octets < 2 ^ 16) × (length octets ≤ limit) × IsOctets octets
IsPacket limit (Sync word octets) = (word < 2 ^ 16) × (length octets < 2 ^ 8) × IsOctets octets
IsPacket limit (Event code params) = (code < 2 ^ 8) × (length params < 2 ^ 8) × IsOctets params
