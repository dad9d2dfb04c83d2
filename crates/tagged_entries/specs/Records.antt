-- The records of a capture: what stands there, whatever the payloads say (this project's own).
use Rattle.std.specs.Prelude.{ℕ, ◌≡◌, ◌+◌, ◌*◌, ◌<◌, ◌≤◌, List, ◌++◌, length, get_or, Result, Err}
use Rattle.bt_base.specs.Octets.{IsOctets}
use Rattle.capture.specs.declared.entry_refusal.EntryRefusal.{EntryRefusal}
use Rattle.capture.specs.declared.entry_refusal.EntryRefusal.TheVariants.{BadTag as bad_tag, Truncated}
use Rattle.capture.specs.Entries.{Entry}
use Rattle.capture.specs.EntryReading.{IsRecord, record_octets, IsFront}
use Rattle.capture.specs.CaptureReading.{IsReading}
use Rattle.tagged_entries.specs.declared.record.FirstRecord.{FirstRecord}
use Rattle.tagged_entries.specs.declared.record.FirstRecord.TheVariants.{Whole, Cut, BadTag}

-- the fewest octets of a record that begins with these: octets of its length that are not there are read as 0
abbrev pub least_length : List ℕ → ℕ
least_length octets = 3 + 256 * get_or octets 1 0 + get_or octets 2 0

-- what stands at the front of octets: a record; the beginning of one; or an octet that is no tag
abbrev pub IsFirst : List ℕ → FirstRecord → Type 0
IsFirst octets (Whole tag payload) = (rest : List ℕ) × IsRecord tag payload.now × (octets ≡ record_octets tag payload.now ++ rest)
IsFirst octets (Cut n) = IsFront octets (Err Truncated) × (n ≡ least_length octets) × (length octets < n)
IsFirst octets BadTag = IsFront octets (Err bad_tag)

-- no record that octets begin is shorter than their least length
abbrev pub LeastIsLeast : Type 0
LeastIsLeast = (octets more : List ℕ) (tag : ℕ) (payload : List ℕ) → IsRecord tag payload → octets ++ more ≡ record_octets tag payload → least_length octets ≤ length (record_octets tag payload)

-- each list of octets is a capture, or is refused somewhere
abbrev pub EachIsRead : Type 0
EachIsRead = (octets : List ℕ) → IsOctets octets → (reading : Result (List Entry) (EntryRefusal × ℕ)) × IsReading octets reading
