-- How a whole capture is read (this project's own).
use Rattle.std.specs.Prelude.{ℕ, ◌≡◌, ◌≢◌, List, [], ◌++◌, length, Result, Ok, Err}
use Rattle.std.specs.List.{AllByRecursion}
use Rattle.capture.specs.declared.entry_refusal.EntryRefusal.{EntryRefusal}
use Rattle.capture.specs.declared.entry_refusal.CaptureFault.{CaptureFault}
use Rattle.capture.specs.declared.entry_refusal.CaptureFault.TheVariants.{Refused, NoMemory}
use Rattle.capture.specs.Entries.{Entry, IsEntry, IsCapture, capture_octets}
use Rattle.capture.specs.EntryReading.{IsFront}

-- entries, and behind them octets where an entry should begin and none does
pub record IsRefused (octets : List ℕ) (refusal : EntryRefusal) (place : ℕ) : Type 0 where
  pub entries : List Entry
  pub rest : List ℕ
  pub each : AllByRecursion IsEntry entries
  pub whole : octets ≡ capture_octets entries ++ rest
  pub more : rest ≢ []
  pub refused : IsFront rest (Err refusal)
  pub stands : place ≡ length (capture_octets entries)

-- what is read of octets: the entries whose capture they are, or the first refusal and its place
abbrev pub IsReading : List ℕ → Result (List Entry) (EntryRefusal × ℕ) → Type 0
IsReading octets (Ok entries) = IsCapture octets entries
IsReading octets (Err (refusal, place)) = IsRefused octets refusal place

-- the fault is a refusal of these octets, or want of memory
abbrev pub IsFault : List ℕ → CaptureFault → Type 0
IsFault octets (Refused refusal place) = IsRefused octets refusal place
IsFault octets NoMemory = Unit {0}

-- octets are read in one way
abbrev pub OneReading : Type 0
OneReading = (octets : List ℕ) (reading other : Result (List Entry) (EntryRefusal × ℕ)) → IsReading octets reading → IsReading octets other → reading ≡ other
