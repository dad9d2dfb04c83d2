-- A capture of two hosts made the btsnoop file of one of them (this project's own).
use Rattle.std.specs.Prelude.{ℕ, ◌≡◌, ◌≢◌, ◌+◌, ◌-◌, ◌%◌, ◌^◌, ◌<◌, ◌≤◌, ◌⊎◌, List, [], ◌∷◌, ◌++◌, length, take, Option, Some, None, Result, Ok, Err}
use Rattle.std.specs.List.{AllByRecursion, flat_map, filter_map}
use Rattle.bt_base.specs.Streams.{gained, GainedFront}
use Rattle.h4_framing.specs.Packets.{Packet, Command, Acl, Sync, Event, spelling, IsPacket}
use Rattle.push_terms.specs.declared.word.Side.{Side}
use Rattle.push_terms.specs.declared.word.Side.TheVariants as sides
use Rattle.capture.specs.declared.flow.Flow.{Flow}
use Rattle.capture.specs.declared.flow.Flow.TheVariants.{Out, Into}
use Rattle.capture.specs.declared.entry_refusal.EntryRefusal.TheVariants as entry
use Rattle.capture.specs.Entries.{moved_tag}
use Rattle.capture.specs.EntryReading.{record_octets as tagged, IsFront}
use Rattle.capture.specs.Moves.{Move}
use Rattle.tagged_entries.specs.Records.{least_length}
use Rattle.item_stream.specs.Running.{input_limit, Took}
use Rattle.btsnoop.specs.declared.refusal.SnoopRefusal.{SnoopRefusal}
use Rattle.btsnoop.specs.declared.refusal.SnoopRefusal.TheVariants.{BadMagic, BadVersion, BadLink, BadLength, Truncated, BadTag, BadRecord, TooLong}
use Rattle.btsnoop.specs.declared.fault.SnoopFault.{SnoopFault}
use Rattle.btsnoop.specs.declared.fault.SnoopFault.TheVariants.{Refused, ReadFault, WriteFault, NoMemory}
use Rattle.btsnoop.specs.Files.{Record, file_of}

-- ---- what is read of a capture

-- an entry as it is read here: a packet that moved, or one of another tag, whose payload is passed over
pub data Item : Type 0 where
  Moved : (side : Side) (flow : Flow) (packet : Packet) → Item
  Passed : (tag : ℕ) (payload : List ℕ) → Item

abbrev pub item_octets : Item → List ℕ
item_octets (Moved side flow packet) = tagged (moved_tag side flow) (spelling packet)
item_octets (Passed tag payload) = tagged tag payload

abbrev pub IsItem : Item → Type 0
IsItem (Moved side flow packet) = IsPacket 65535 packet × (length (spelling packet) < 2 ^ 16)
IsItem (Passed tag payload) = (5 ≤ tag) × (tag ≤ 7) × (length payload < 2 ^ 16)

abbrev pub items_octets : List Item → List ℕ
items_octets items = flat_map item_octets items

-- ---- the records of a host

-- a packet that went out of the host, or came into it
abbrev pub move_in : Side → Item → Option Move
move_in sides.A (Moved sides.A flow packet) = Some (record { flow = flow; packet = packet })
move_in sides.B (Moved sides.B flow packet) = Some (record { flow = flow; packet = packet })
move_in _ _ = None

abbrev pub moves_in : Side → List Item → List Move
moves_in side items = filter_map (move_in side) items

-- bit 0 of the flags: a packet comes into the host
abbrev pub flow_flag : Flow → ℕ
flow_flag Out = 0
flow_flag Into = 1

-- bit 1: it is a command or an event
abbrev pub kind_flag : Packet → ℕ
kind_flag (Command opcode params) = 2
kind_flag (Acl word octets) = 0
kind_flag (Sync word octets) = 0
kind_flag (Event code params) = 2

-- the time of the first record, in microseconds: the first moment of the year 2000. Each further record is one later, in
-- the 64 bits of its field
abbrev pub first_time : ℕ
first_time = 0x00E03AB44A676000

abbrev pub time_of : ℕ → ℕ
time_of number = (first_time + number) % 2 ^ 64

-- the record with that number, from 0 on
abbrev pub record_of : ℕ → Move → Record
record_of number move = record { original = length (spelling move.packet); flags = flow_flag move.flow + kind_flag move.packet; drops = 0; time = time_of number; octets = spelling move.packet }

abbrev pub records_from : ℕ → List Move → List Record
records_from number [] = []
records_from number (move ∷ moves) = record_of number move ∷ records_from (number + 1) moves

-- the records of a host: its packets, in their order
abbrev pub records_of : Side → List Item → List Record
records_of side items = records_from 0 (moves_in side items)

-- ---- where a capture stops being one

-- A whole entry stands there under a tag of packets, and its payload is not exactly one packet.
pub record IsBadPacket (octets : List ℕ) : Type 0 where
  pub side : Side
  pub flow : Flow
  pub payload : List ℕ
  pub more : List ℕ
  pub short : length payload < 2 ^ 16
  pub whole : octets ≡ tagged (moved_tag side flow) payload ++ more
  pub none : (packet : Packet) → IsPacket 65535 packet → spelling packet ≡ payload → ⊥

-- what is read of what is left at an offset: whoever reads stops at the greatest length
abbrev pub read_of : ℕ → List ℕ → List ℕ
read_of from rest = take (input_limit - from) rest

-- Why reading stops at an offset, where this is left of the input. No refusal: nothing is left. Truncated: the input ends
-- within an entry that may end within the greatest length. Too long: up to the greatest length, or up to the end of the
-- input where that comes first, stands the beginning of an entry that goes past the greatest length.
abbrev pub Stops : ℕ → List ℕ → Option (SnoopRefusal × ℕ) → Type 0
Stops from rest None = rest ≡ []
Stops from rest (Some (BadTag, place)) = (place ≡ from) × (from < input_limit) × IsFront rest (Err entry.BadTag)
Stops from rest (Some (Truncated, place)) = (place ≡ from) × (rest ≢ []) × IsFront rest (Err entry.Truncated) × (from + least_length rest ≤ input_limit)
Stops from rest (Some (BadRecord, place)) = (place ≡ from) × IsBadPacket (read_of from rest)
Stops from rest (Some (TooLong, place)) = (place ≡ input_limit) × (rest ≢ []) × IsFront (read_of from rest) (Err entry.Truncated) × (input_limit < from + least_length (read_of from rest))
Stops from rest (Some (BadMagic, place)) = ⊥
Stops from rest (Some (BadVersion, place)) = ⊥
Stops from rest (Some (BadLink, place)) = ⊥
Stops from rest (Some (BadLength, place)) = ⊥

-- The input begins with these entries, and they end within the greatest length.
pub record BeginsWith (input : List ℕ) (items : List Item) : Type 0 where
  pub each : AllByRecursion IsItem items
  pub within : length (items_octets items) ≤ input_limit
  pub rest : List ℕ
  pub whole : input ≡ items_octets items ++ rest

-- Of an input these entries are read, and then reading stops so.
pub record IsReading (input : List ℕ) (items : List Item) (verdict : Option (SnoopRefusal × ℕ)) : Type 0 where
  pub begins : BeginsWith input items
  pub stops : Stops (length (items_octets items)) begins.rest verdict

-- ---- what a sink gains

-- All entries that were read are written: the input is what was read and what is left of the source, and what was read
-- is these entries and no whole one more.
pub record WrittenRead (side : Side) (input : List ℕ) (left old new : Option (List ℕ)) : Type 0 where
  pub items : List Item
  pub each : AllByRecursion IsItem items
  pub rest : List ℕ
  pub took : Took (Some input) left (items_octets items ++ rest)
  pub within : length (items_octets items) + length rest ≤ input_limit
  pub unfinished : (rest ≡ []) ⊎ IsFront rest (Err entry.Truncated)
  pub wrote : new ≡ gained old (file_of (records_of side items))

-- A front was written of the file of entries that the input begins with.
pub record FrontWritten (side : Side) (input : List ℕ) (old new : Option (List ℕ)) : Type 0 where
  pub items : List Item
  pub begins : BeginsWith input items
  pub wrote : GainedFront old new (file_of (records_of side items))

-- What a sink gains from a capture, of which the source then has `left`. A fault of the source loses nothing.
abbrev pub Converts : Side → List ℕ → Option (List ℕ) → Option (List ℕ) → Option (List ℕ) → Result (Unit {0}) SnoopFault → Type 0
Converts side input left old new (Ok done) = (items : List Item) × IsReading input items None × (new ≡ gained old (file_of (records_of side items)))
Converts side input left old new (Err (Refused refusal place)) = (items : List Item) × IsReading input items (Some (refusal, place)) × (new ≡ gained old (file_of (records_of side items)))
Converts side input left old new (Err ReadFault) = WrittenRead side input left old new
Converts side input left old new (Err WriteFault) = FrontWritten side input old new
Converts side input left old new (Err NoMemory) = FrontWritten side input old new
