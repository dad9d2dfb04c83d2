-- The view of a capture: its lines, which entries it shows and why it stops (this project's own).
use Rattle.std.specs.Prelude.{ℕ, ◌≡◌, ◌≢◌, ◌+◌, ◌<◌, ◌≤◌, ◌⊎◌, List, [], ◌++◌, length, Option, None, Some, Result, Err, codes, decimal}
use Rattle.std.specs.List.{AllByRecursion, filter_map}
use Rattle.push_terms.specs.declared.word.Side.{Side}
use Rattle.push_terms.specs.declared.word.Side.TheVariants as sides
use Rattle.push_terms.specs.Words.{word_text, side_text}
use Rattle.push_terms.specs.Outcomes.{outcome_text}
use Rattle.capture.specs.declared.flow.Flow.{Flow}
use Rattle.capture.specs.declared.flow.Flow.TheVariants as flow
use Rattle.capture.specs.declared.entry_refusal.EntryRefusal.TheVariants as entry
use Rattle.capture.specs.Entries.{Entry, Moved, Acted, Begun, Ended, IsEntry, entry_octets, capture_octets}
use Rattle.capture.specs.EntryReading.{IsFront}
use Rattle.tagged_entries.specs.Records.{least_length}
use Rattle.seen_channels.specs.declared.direction.Direction.{Direction}
use Rattle.seen_channels.specs.declared.direction.Direction.TheVariants.{Out, In}
use Rattle.item_stream.specs.Running.{input_limit, Took}
use Rattle.btsnoop.specs.Converting.{read_of}
use Rattle.h4_view.specs.declared.refusal.ViewRefusal.{ViewRefusal}
use Rattle.h4_view.specs.declared.refusal.ViewRefusal.TheVariants.{Truncated, TooLong, BadTag, BadRecord}
use Rattle.h4_view.specs.declared.refusal.ViewFault.{ViewFault}
use Rattle.h4_view.specs.Lines.{packet_text}
use Rattle.h4_view.specs.Viewing.{Viewed, ViewsAs, lines_from}
use Rattle.h4_view.specs.Both.{Sent, under_by}

-- ---- the lines of an entry

-- which way a packet goes, as its host sees it
abbrev pub direction_of : Flow → Direction
direction_of flow.Out = Out
direction_of flow.Into = In

abbrev pub flow_text : Flow → List ℕ
flow_text flow.Out = codes ">"
flow_text flow.Into = codes "<"

-- what an entry's line says behind the offset
abbrev pub entry_text : Entry → List ℕ
entry_text (Moved side flow packet) = side_text side ++ flow_text flow ++ codes " " ++ packet_text packet
entry_text (Acted ordinal word) = codes "word " ++ decimal ordinal ++ codes " " ++ word_text word
entry_text (Begun push) = codes "begin " ++ decimal push
entry_text (Ended push outcome) = codes "end " ++ decimal push ++ codes " " ++ outcome_text outcome

-- the packets of a host in these entries, and which way each went
abbrev pub sent_in : Side → Entry → Option Sent
sent_in sides.A (Moved sides.A flow packet) = Some (record { direction = direction_of flow; packet = packet })
sent_in sides.B (Moved sides.B flow packet) = Some (record { direction = direction_of flow; packet = packet })
sent_in _ _ = None

abbrev pub sent_of : Side → List Entry → List Sent
sent_of side entries = filter_map (sent_in side) entries

-- what stands under the line of an entry that comes after these: what a packet says after those of its host
abbrev pub entry_under : List Entry → Entry → List ℕ
entry_under past (Moved side flow packet) = under_by (sent_of side past) (direction_of flow) packet
entry_under past (Acted ordinal word) = []
entry_under past (Begun push) = []
entry_under past (Ended push outcome) = []

-- the lines of an entry whose tag stands at that offset
abbrev pub entry_lines : List Entry → ℕ → Entry → List ℕ
entry_lines past offset entry = decimal offset ++ codes " " ++ entry_text entry ++ codes "\n" ++ entry_under past entry

-- the lines of entries that stand one after the other from that offset on, after these entries
abbrev pub tagged_lines : List Entry → ℕ → List Entry → List ℕ
tagged_lines past offset entries = lines_from entry_octets entry_lines past offset entries

-- ---- which entries are shown, and why the view stops

-- Why the view stops at an offset, where this is left of the input. No refusal: nothing is left. Truncated: the input ends
-- within an entry that may end within the greatest length. Too long: up to the greatest length, or up to the end of the
-- input where that comes first, stands the beginning of an entry that goes past the greatest length.
abbrev pub Stops : ℕ → List ℕ → Option (ViewRefusal × ℕ) → Type 0
Stops from rest None = rest ≡ []
Stops from rest (Some (BadTag, place)) = (place ≡ from) × (from < input_limit) × IsFront rest (Err entry.BadTag)
Stops from rest (Some (Truncated, place)) = (place ≡ from) × (rest ≢ []) × IsFront rest (Err entry.Truncated) × (from + least_length rest ≤ input_limit)
Stops from rest (Some (BadRecord, place)) = (place ≡ from) × IsFront (read_of from rest) (Err entry.BadRecord)
Stops from rest (Some (TooLong, place)) = (place ≡ input_limit) × (rest ≢ []) × IsFront (read_of from rest) (Err entry.Truncated) × (input_limit < from + least_length (read_of from rest))
Stops from rest (Some (_, place)) = ⊥

-- The input begins with these entries, and they end within the greatest length.
pub record BeginsWith (input : List ℕ) (entries : List Entry) : Type 0 where
  pub each : AllByRecursion IsEntry entries
  pub within : length (capture_octets entries) ≤ input_limit
  pub rest : List ℕ
  pub whole : input ≡ capture_octets entries ++ rest

-- The view of an input shows these entries, and then stops so at what is left of the input.
pub record IsTaggedView (input : List ℕ) (entries : List Entry) (verdict : Option (ViewRefusal × ℕ)) : Type 0 where
  pub begins : BeginsWith input entries
  pub stops : Stops (length (capture_octets entries)) begins.rest verdict

-- ---- what a sink gains

-- What was read of the input is these entries and no whole one more, and this is left of the source.
pub record WasRead (input : List ℕ) (left : Option (List ℕ)) (entries : List Entry) : Type 0 where
  pub each : AllByRecursion IsEntry entries
  pub rest : List ℕ
  pub took : Took (Some input) left (capture_octets entries ++ rest)
  pub within : length (capture_octets entries) + length rest ≤ input_limit
  pub unfinished : (rest ≡ []) ⊎ IsFront rest (Err entry.Truncated)

-- a capture of two hosts as its view sees it
abbrev pub tagged_capture : Viewed Entry
tagged_capture = record { begins = BeginsWith; is_view = IsTaggedView; was_read = WasRead; text = tagged_lines [] 0 }

-- What a sink gains from the view of a capture, of which the source then has `left`.
abbrev pub TaggedViews : List ℕ → Option (List ℕ) → Option (List ℕ) → Option (List ℕ) → Result (Unit {0}) ViewFault → Type 0
TaggedViews input left old new result = ViewsAs tagged_capture input left old new result
