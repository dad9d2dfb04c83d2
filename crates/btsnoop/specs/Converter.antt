-- What contracts see of a conversion under way (this project's own).
use Rattle.std.specs.Prelude.{ℕ, ◌≡◌, ◌≢◌, ◌+◌, ◌%◌, ◌^◌, ◌≤◌, ◌⊎◌, Bool, true, false, if◌then◌else◌, List, [], ◌∷◌, ◌++◌, length, Err}
use Rattle.std.specs.List.{AllByRecursion}
use Rattle.capture.specs.declared.entry_refusal.EntryRefusal.TheVariants as entry
use Rattle.h4_framing.specs.Packets.{Packet, spelling, IsPacket}
use Rattle.push_terms.specs.declared.word.Side.{Side}
use Rattle.push_terms.specs.declared.word.Side.TheVariants as sides
use Rattle.capture.specs.declared.flow.Flow.{Flow}
use Rattle.capture.specs.Entries.{moved_tag}
use Rattle.capture.specs.Moves.{Move}
use Rattle.capture.specs.EntryReading.{IsFront}
use Rattle.tagged_entries.specs.Records.{least_length}
use Rattle.item_stream.specs.declared.teller.Front.{Front}
use Rattle.item_stream.specs.declared.teller.Front.TheVariants.{Item as item, Cut, Nothing, Refused}
use Rattle.btsnoop.specs.declared.refusal.SnoopRefusal.TheVariants.{BadTag, BadRecord}
use Rattle.btsnoop.specs.declared.converting.Converter.{Converter}
use Rattle.btsnoop.specs.Files.{Record, records_octets, file_of}
use Rattle.btsnoop.specs.Converting.{Item, IsItem, items_octets, moves_in, record_of, records_of, time_of, IsBadPacket}

-- Since it was `first` it read entries with these octets, and gave this of a file.
pub record HasRead (first now : Converter) (octets said : List ℕ) : Type 0 where
  pub items : List Item
  pub each : AllByRecursion IsItem items
  pub whole : octets ≡ items_octets items
  pub file : said ≡ file_of (records_of first.side items)
  pub side : now.side ≡ first.side
  pub time : now.time ≡ time_of (length (moves_in first.side items))

-- what it finds where no whole entry stands
abbrev pub Finds : Converter → List ℕ → Front → Type 0
Finds now octets (item n) = ⊥
Finds now octets (Cut n) = (octets ≢ []) × IsFront octets (Err entry.Truncated) × (n ≡ least_length octets)
Finds now octets Nothing = octets ≡ []
Finds now octets Refused = ((now.refusal ≡ BadTag) × IsFront octets (Err entry.BadTag)) ⊎ ((now.refusal ≡ BadRecord) × IsBadPacket octets)

abbrev pub same_side : Side → Side → Bool
same_side sides.A sides.A = true
same_side sides.B sides.B = true
same_side _ _ = false

-- what is given of a packet of a host
abbrev pub given_of : Converter → Side → Move → List Record
given_of now side move = if same_side side now.side then record (record_of 0 move) { time = now.time } ∷ [] else []

-- and what follows
abbrev pub after : Converter → Side → Converter
after now side = if same_side side now.side then record now { time = (now.time + 1) % 2 ^ 64 } else now

-- a payload was read as a packet of a host, or is none
abbrev pub PacketRead : Side → Flow → List ℕ → Converter → Converter → List ℕ → List ℕ → Bool → Type 0
PacketRead side flow payload old new text text' true =
    (packet : Packet) × IsPacket 65535 packet × (spelling packet ≡ payload) × (text' ≡ text ++ records_octets (given_of old side (record { flow = flow; packet = packet }))) × (new ≡ after old side)
PacketRead side flow payload old new text text' false = ((packet : Packet) → IsPacket 65535 packet → spelling packet ≡ payload → ⊥) × (text' ≡ text) × (new ≡ record old { refusal = BadRecord })

-- an entry was read: a packet, or one that is passed over
abbrev pub EntryRead : ℕ → List ℕ → Converter → Converter → List ℕ → List ℕ → Bool → Type 0
EntryRead tag payload old new text text' read =
    ((side : Side) × (flow : Flow) × (tag ≡ moved_tag side flow) × PacketRead side flow payload old new text text' read)
    ⊎ ((5 ≤ tag) × (read ≡ true) × (text' ≡ text) × (new ≡ old))
