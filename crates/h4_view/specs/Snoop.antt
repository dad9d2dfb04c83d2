-- The view of a btsnoop file: the lines of its records, which records it shows and why it stops (this project's own).
use Rattle.std.specs.Prelude.{ℕ, ◌≡◌, ◌≢◌, ◌+◌, ◌%◌, ◌<◌, ◌≤◌, ◌==◌, cond, nat_lt, List, [], ◌++◌, length, map, Option, None, Some, MatchOption, Result, codes, decimal}
use Rattle.std.specs.Option.{option_map}
use Rattle.std.specs.List.{AllByRecursion, filter_map}
use Rattle.h4_framing.specs.Packets.{Packet, spelling, IsPacket}
use Rattle.seen_channels.specs.declared.direction.Direction.{Direction}
use Rattle.seen_channels.specs.declared.direction.Direction.TheVariants.{Out, In}
use Rattle.btsnoop.specs.declared.refusal.SnoopRefusal.{SnoopRefusal}
use Rattle.btsnoop.specs.declared.refusal.SnoopRefusal.TheVariants as snoop
use Rattle.btsnoop.specs.declared.fields.Part.{Part}
use Rattle.btsnoop.specs.declared.fields.Part.TheVariants.{Header, Body}
use Rattle.btsnoop.specs.Files.{Record, IsRecord, record_octets}
use Rattle.btsnoop.specs.Fields.{fault_in, told_length, IsUnfinished}
use Rattle.btsnoop.specs.Reading.{lead, IsCut}
use Rattle.item_stream.specs.Running.{input_limit, Took}
use Rattle.btsnoop.specs.Converting.{read_of}
use Rattle.h4_view.specs.declared.refusal.ViewRefusal.{ViewRefusal}
use Rattle.h4_view.specs.declared.refusal.ViewRefusal.TheVariants.{Truncated, TooLong, BadTag, BadRecord, BadMagic, BadVersion, BadLink, BadLength}
use Rattle.h4_view.specs.declared.refusal.ViewFault.{ViewFault}
use Rattle.h4_view.specs.Lines.{packet_text}
use Rattle.h4_view.specs.Both.{Sent, under_by}
use Rattle.h4_view.specs.Viewing.{Viewed, ViewsAs, lines_from}

-- ---- the lines of a record

-- a record of a file, and the packet that its octets are, where they are exactly one
pub record Kept : Type 0 where
  pub item : Record
  pub packet : Option Packet

-- no packet has exactly these octets
abbrev pub IsNoPacket : List ℕ → Type 0
IsNoPacket octets = (packet : Packet) → IsPacket 65535 packet → spelling packet ≡ octets → ⊥

abbrev pub IsKept : Kept → Type 0
IsKept kept = IsRecord kept.item × MatchOption kept.packet (IsNoPacket kept.item.octets) (λ packet. IsPacket 65535 packet × (spelling packet ≡ kept.item.octets))

-- which way a packet goes, as its host sees it: bit 0 of the flags is 1 where it comes in
abbrev pub direction_of : ℕ → Direction
direction_of flags = cond (flags % 2 == 0) Out In

abbrev pub mark : Direction → List ℕ
mark Out = codes ">"
mark In = codes "<"

-- octets that are not exactly one packet: how many there were and how many were kept, where some were cut off
abbrev pub cut_text : Record → List ℕ
cut_text item = cond (nat_lt (length item.octets) item.original) (codes "cut " ++ decimal item.original ++ codes " " ++ decimal (length item.octets)) (codes "bad")

-- what a record's line says behind the mark, with its line feed, and what stands under it
abbrev pub kept_text : List Sent → Direction → Record → Option Packet → List ℕ
kept_text past direction item (Some packet) = (packet_text packet ++ codes "\n") ++ under_by past direction packet
kept_text past direction item None = cut_text item ++ codes "\n"

-- the packets of records, and which way each went
abbrev pub sent_in : Kept → Option Sent
sent_in kept = option_map (λ packet. record { direction = direction_of kept.item.flags; packet = packet }) kept.packet

abbrev pub sent_of : List Kept → List Sent
sent_of items = filter_map sent_in items

-- the lines of a record that stands at that offset, after these records
abbrev pub kept_lines : List Kept → ℕ → Kept → List ℕ
kept_lines past offset kept =
    decimal offset ++ codes " " ++ mark (direction_of kept.item.flags) ++ codes " " ++ kept_text (sent_of past) (direction_of kept.item.flags) kept.item kept.packet

abbrev pub kept_octets : Kept → List ℕ
kept_octets kept = record_octets kept.item

-- the lines of the records of a file, the first of which stands behind the sixteen octets of the file header
abbrev pub snoop_lines : List Kept → List ℕ
snoop_lines items = lines_from kept_octets kept_lines [] 16 items

-- ---- which records are shown, and why the view stops

-- why a file is refused, as a view says it
abbrev pub view_refusal : SnoopRefusal → ViewRefusal
view_refusal snoop.BadMagic = BadMagic
view_refusal snoop.BadVersion = BadVersion
view_refusal snoop.BadLink = BadLink
view_refusal snoop.BadLength = BadLength
view_refusal snoop.Truncated = Truncated
view_refusal snoop.BadTag = BadTag
view_refusal snoop.BadRecord = BadRecord
view_refusal snoop.TooLong = TooLong

-- Why the view stops at an offset, where the file header or a record should begin and this is left of the input: behind
-- the last record. Wrong: a field is wrong among what is read up to the greatest length. Cut: the input ends within the file
-- header or a record that may end within the greatest length. Long: up to the greatest length, or up to the end of the
-- input where that comes first, stands the beginning of a record that goes past the greatest length.
pub data Stops (part : Part) (from : ℕ) (rest : List ℕ) (verdict : Option (ViewRefusal × ℕ)) : Type 0 where
  AtEnd : part ≡ Body → rest ≡ [] → verdict ≡ None → Stops part from rest verdict
  Wrong : (refusal : SnoopRefusal) (place : ℕ) → fault_in part (read_of from rest) ≡ Some (refusal, place) → verdict ≡ Some (view_refusal refusal, from + place) → Stops part from rest verdict
  Cut : IsCut part rest → from + told_length part rest ≤ input_limit → verdict ≡ Some (Truncated, from) → Stops part from rest verdict
  Long : rest ≢ [] → IsUnfinished part (read_of from rest) → input_limit < from + told_length part (read_of from rest) → verdict ≡ Some (TooLong, input_limit) → Stops part from rest verdict

-- the octets of the file header, where it was whole, and of records behind it
abbrev pub led_by : Part → List Kept → List ℕ
led_by part items = lead part (map (λ kept. kept.item) items)

-- The input begins with these records, and they end within the greatest length.
pub record BeginsWith (input : List ℕ) (items : List Kept) : Type 0 where
  pub part : Part
  pub each : AllByRecursion IsKept items
  pub early : part ≡ Header → items ≡ []
  pub within : length (led_by part items) ≤ input_limit
  pub rest : List ℕ
  pub whole : input ≡ led_by part items ++ rest

-- The view of an input shows these records, and then stops so at what is left of the input.
pub record IsSnoopView (input : List ℕ) (items : List Kept) (verdict : Option (ViewRefusal × ℕ)) : Type 0 where
  pub begins : BeginsWith input items
  pub stops : Stops begins.part (length (led_by begins.part items)) begins.rest verdict

-- What was read of the input is these records and no whole one more, and this is left of the source.
pub record WasRead (input : List ℕ) (left : Option (List ℕ)) (items : List Kept) : Type 0 where
  pub part : Part
  pub each : AllByRecursion IsKept items
  pub early : part ≡ Header → items ≡ []
  pub rest : List ℕ
  pub took : Took (Some input) left (led_by part items ++ rest)
  pub within : length (led_by part items) + length rest ≤ input_limit
  pub unfinished : IsUnfinished part rest

-- a btsnoop file as its view sees it
abbrev pub snoop_file : Viewed Kept
snoop_file = record { begins = BeginsWith; is_view = IsSnoopView; was_read = WasRead; text = snoop_lines }

-- What a sink gains from the view of a btsnoop file, of which the source then has `left`.
abbrev pub SnoopViews : List ℕ → Option (List ℕ) → Option (List ℕ) → Option (List ℕ) → Result (Unit {0}) ViewFault → Type 0
SnoopViews input left old new result = ViewsAs snoop_file input left old new result
