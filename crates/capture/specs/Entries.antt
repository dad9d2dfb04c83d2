-- A capture: what moved between two hosts and their controllers, what the radio did, and when each push began and
-- ended, in the order in which it happened (this project's own).
use Rattle.std.specs.Prelude.{ℕ, ◌≡◌, ◌<◌, ◌≤◌, ◌^◌, List, ◌∷◌, ◌++◌, length}
use Rattle.std.specs.List.{flat_map, AllByRecursion}
use Rattle.byteorder.specs.Endian.{big_bytes}
use Rattle.bt_base.specs.Octets.{be16}
use Rattle.h4_framing.specs.Packets.{Packet, spelling, IsPacket}
use Rattle.push_terms.specs.declared.word.Side.{Side}
use Rattle.push_terms.specs.declared.word.Side.TheVariants as sides
use Rattle.push_terms.specs.declared.word.Word.{Word}
use Rattle.push_terms.specs.declared.outcome.Outcome.{Outcome}
use Rattle.push_terms.specs.Words.{word_text}
use Rattle.push_terms.specs.Outcomes.{outcome_text, IsOutcome}
use Rattle.push_terms.specs.Words.{IsWord}
use Rattle.capture.specs.declared.flow.Flow.{Flow}
use Rattle.capture.specs.declared.flow.Flow.TheVariants.{Out, Into}

-- a packet that moved out of a host or into it; a word of the radio script that did something, with its place in the
-- script from 1 on; the begin and the end of a push, by its number from 1 on
pub data Entry : Type 0 where
  Moved : (side : Side) (flow : Flow) (packet : Packet) → Entry
  Acted : (ordinal : ℕ) (word : Word) → Entry
  Begun : (push : ℕ) → Entry
  Ended : (push : ℕ) (outcome : Outcome) → Entry

-- ---- the octets of an entry

-- out of host a, into it, out of host b, into it
abbrev pub moved_tag : Side → Flow → ℕ
moved_tag sides.A Out = 0x01
moved_tag sides.A Into = 0x02
moved_tag sides.B Out = 0x03
moved_tag sides.B Into = 0x04

abbrev pub tag_of : Entry → ℕ
tag_of (Moved side flow packet) = moved_tag side flow
tag_of (Acted ordinal word) = 0x05
tag_of (Begun push) = 0x06
tag_of (Ended push outcome) = 0x07

-- a whole packet of the UART transport; eight octets with the ordinal, and the word's text; two octets with the number
-- of the push, and at its end the text of its outcome. In numbers the highest octet stands first
abbrev pub payload_of : Entry → List ℕ
payload_of (Moved side flow packet) = spelling packet
payload_of (Acted ordinal word) = big_bytes 8 ordinal ++ word_text word
payload_of (Begun push) = be16 push
payload_of (Ended push outcome) = be16 push ++ outcome_text outcome

-- the tag, two octets with the length of the payload, the payload
abbrev pub entry_octets : Entry → List ℕ
entry_octets entry = tag_of entry ∷ (be16 (length (payload_of entry)) ++ payload_of entry)

abbrev pub capture_octets : List Entry → List ℕ
capture_octets entries = flat_map entry_octets entries

-- ---- the entries that have octets

-- numbers fit their octets, and a packet with its header fits the length of an entry
abbrev pub IsEntry : Entry → Type 0
IsEntry (Moved side flow packet) = IsPacket 65535 packet × (length (spelling packet) < 2 ^ 16)
IsEntry (Acted ordinal word) = (1 ≤ ordinal) × (ordinal < 2 ^ 64) × IsWord word
IsEntry (Begun push) = push < 2 ^ 16
IsEntry (Ended push outcome) = (push < 2 ^ 16) × IsOutcome outcome

-- these octets are the capture of these entries
pub record IsCapture (octets : List ℕ) (entries : List Entry) : Type 0 where
  pub each : AllByRecursion IsEntry entries
  pub whole : octets ≡ capture_octets entries
