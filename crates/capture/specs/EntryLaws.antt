-- Entries and captures are known by their octets.
use Rattle.std.specs.Prelude.{ℕ, ◌≡◌, List, ◌++◌}
use Rattle.capture.specs.Entries.{Entry, IsEntry, IsCapture, entry_octets}

-- no entry's octets begin another's
abbrev pub NoEntryBeginsAnother : Type 0
NoEntryBeginsAnother = (entry other : Entry) (more rest : List ℕ) → IsEntry entry → IsEntry other
    → entry_octets entry ++ more ≡ entry_octets other ++ rest → (entry ≡ other) × (more ≡ rest)

-- octets are the capture of one list of entries at most
abbrev pub OneCapture : Type 0
OneCapture = (octets : List ℕ) (entries others : List Entry) → IsCapture octets entries → IsCapture octets others → entries ≡ others
