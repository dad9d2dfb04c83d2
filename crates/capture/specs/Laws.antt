-- What one entry more does to each definition, and a capture in two parts.
use Rattle.std.specs.Prelude.{ℕ, ◌≡◌, ◌≤◌, min, max, List, [], ◌∷◌, ◌++◌, fold, Option, Some, None, option_to_list}
use Rattle.acl_credits.specs.Histories.{outstanding_after}
use Rattle.push_terms.specs.declared.word.Side.{Side}
use Rattle.capture.specs.Entries.{Entry, capture_octets}
use Rattle.capture.specs.Moves.{Move, move_of, moves}
use Rattle.capture.specs.Links.{Link, Linking, longer, after_move, linking}
use Rattle.capture.specs.Buffers.{buffer_events, outstanding_on_link, all_outstanding, KeepsWithin}
use Rattle.capture.specs.Pdus.{completed, pdus}
use Rattle.capture.specs.Pushes.{mark_of, last_mark, under_way}
use Rattle.capture.specs.Peaks.{buffers_peak}
use Rattle.capture.specs.Air.{last_or, ordinal_of, words_done}

-- ---- one entry more

-- it is a packet of its host, or none
abbrev pub MovesMore : Type 0
MovesMore = (side : Side) (entries : List Entry) (entry : Entry) → moves side (entries ++ entry ∷ []) ≡ moves side entries ++ option_to_list (move_of side entry)

-- a packet more leads the links on
abbrev pub LinksMore : Type 0
LinksMore = (moved : List Move) (move : Move) → linking (moved ++ move ∷ []) ≡ after_move (linking moved) move

-- the packets outstanding on a link with one packet more
abbrev pub OutstandingMore : Type 0
OutstandingMore = (link : Link) (move : Move) → outstanding_on_link (longer move link) ≡ fold (outstanding_after link.handle) (outstanding_on_link link) (buffer_events move)

-- the PDUs, and what is said, with one packet more
abbrev pub PdusMore : Type 0
PdusMore = (link : Link) (move : Move) → pdus (longer move link) ≡ pdus link ++ completed link.handle link.moves move

-- ---- the same of all else

-- the links, by what a packet of the host means for them
abbrev pub led_on : Option Move → Linking → Linking
led_on None linked = linked
led_on (Some move) linked = after_move linked move

abbrev pub EntryLinksMore : Type 0
EntryLinksMore = (side : Side) (entries : List Entry) (entry : Entry) → linking (moves side (entries ++ entry ∷ [])) ≡ led_on (move_of side entry) (linking (moves side entries))

-- a host that stays within the buffers
abbrev pub WithinMore : Type 0
WithinMore = (side : Side) (count : ℕ) (entries : List Entry) (entry : Entry) →
    KeepsWithin side count entries → all_outstanding side (entries ++ entry ∷ []) ≤ min count 64 → KeepsWithin side count (entries ++ entry ∷ [])

abbrev pub PeakMore : Type 0
PeakMore = (side : Side) (entries : List Entry) (entry : Entry) → buffers_peak side (entries ++ entry ∷ []) ≡ max (buffers_peak side entries) (all_outstanding side (entries ++ entry ∷ []))

-- the push that is under way, and the words that were done
abbrev pub UnderWayMore : Type 0
UnderWayMore = (entries : List Entry) (entry : Entry) → under_way (entries ++ entry ∷ []) ≡ last_mark (under_way entries) (option_to_list (mark_of entry))

abbrev pub WordsMore : Type 0
WordsMore = (entries : List Entry) (entry : Entry) → words_done (entries ++ entry ∷ []) ≡ last_or (words_done entries) (ordinal_of entry)

-- ---- a capture in two parts

abbrev pub OctetsInParts : Type 0
OctetsInParts = (first second : List Entry) → capture_octets (first ++ second) ≡ capture_octets first ++ capture_octets second

abbrev pub MovesInParts : Type 0
MovesInParts = (side : Side) (first second : List Entry) → moves side (first ++ second) ≡ moves side first ++ moves side second

abbrev pub LinksInParts : Type 0
LinksInParts = (first second : List Move) → linking (first ++ second) ≡ fold after_move (linking first) second
