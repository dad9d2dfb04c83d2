-- What holds of files and of readers, whatever they are.
use Rattle.std.specs.Prelude.{ℕ, ◌≡◌, ◌↔◌, ◌≤◌, List, ◌++◌, length, Option, None, Some, Result, Ok, Err}
use Rattle.std.specs.List.{AllByRecursion}
use Rattle.bt_base.specs.Octets.{IsOctets}
use Rattle.bt_base.specs.Streams.{gained}
use Rattle.h4_framing.specs.Framing.{counted}
use Rattle.push_terms.specs.declared.word.Side.{Side}
use Rattle.item_stream.specs.Running.{input_limit}
use Rattle.btsnoop.specs.declared.refusal.SnoopRefusal.{SnoopRefusal}
use Rattle.btsnoop.specs.declared.fault.SnoopFault.{SnoopFault}
use Rattle.btsnoop.specs.declared.fault.SnoopFault.TheVariants.{Refused, ReadFault, WriteFault, NoMemory}
use Rattle.btsnoop.specs.declared.reader.SnoopTaken.{SnoopTaken}
use Rattle.btsnoop.specs.Files.{Record, IsRecord, IsFile, record_octets, file_of}
use Rattle.btsnoop.specs.Reading.{Reads}
use Rattle.btsnoop.specs.Converting.{Item, IsItem, items_octets, records_of, IsReading, Converts}
use Rattle.btsnoop.specs.Taking.{Progress, no_progress, EndsWith}
use Rattle.btsnoop.specs.Accounts.{TakesAll, all_used, all_given}

-- No record's octets begin another's.
abbrev pub NoRecordBeginsAnother : Type 0
NoRecordBeginsAnother = (r s : Record) (x y : List ℕ) → IsRecord r → IsRecord s → record_octets r ++ x ≡ record_octets s ++ y → (r ≡ s) × (x ≡ y)

-- Octets are read in one way.
abbrev pub OneReading : Type 0
OneReading = (octets : List ℕ) (rs ss : List Record) (e f : Option (SnoopRefusal × ℕ)) → Reads octets rs e → Reads octets ss f → (rs ≡ ss) × (e ≡ f)

-- Each list of octets is read.
abbrev pub EachIsRead : Type 0
EachIsRead = (octets : List ℕ) → IsOctets octets → (items : List Record) × (ending : Option (SnoopRefusal × ℕ)) × Reads octets items ending

-- The octets that are read to their end are the files.
abbrev pub FilesAreRead : Type 0
FilesAreRead = (octets : List ℕ) (items : List Record) → (IsFile octets items ↔ Reads octets items None)

-- an end is answered as it is, its place as a count of 64 bits
abbrev pub Tells : Option (SnoopRefusal × ℕ) → Result (Unit {0}) (SnoopRefusal × ℕ) → Type 0
Tells None (Ok _) = Unit {0}
Tells None (Err fault) = ⊥
Tells (Some ending) (Ok _) = ⊥
Tells (Some ending) (Err fault) = (fault.0 ≡ ending.0) × (fault.1 ≡ counted 0 ending.1)

-- However octets are cut into pieces, the records that a reader gives are those that they are read as, and its end is
-- how they end.
abbrev pub AnyPiecesAreRead : Type 0
AnyPiecesAreRead = (calls : List (List ℕ × SnoopTaken)) (now : Progress) (ended : Result (Unit {0}) (SnoopRefusal × ℕ)) → TakesAll no_progress calls now → EndsWith now ended
    → (ending : Option (SnoopRefusal × ℕ)) × Reads (all_used calls) (all_given calls) ending × Tells ending ended

-- The records that were given are the first, however the octets go on.
abbrev pub GivenComeFirst : Type 0
GivenComeFirst = (calls : List (List ℕ × SnoopTaken)) (now : Progress) (more : List ℕ) (items : List Record) (ending : Option (SnoopRefusal × ℕ)) → TakesAll no_progress calls now
    → Reads (all_used calls ++ more) items ending → (others : List Record) × (items ≡ all_given calls ++ others)

-- A file that is written is read again as its records, in whatever pieces.
abbrev pub WrittenIsRead : Type 0
WrittenIsRead = (items : List Record) (calls : List (List ℕ × SnoopTaken)) (now : Progress) (ended : Result (Unit {0}) (SnoopRefusal × ℕ)) → IsFile (all_used calls) items → TakesAll no_progress calls now → EndsWith now ended
    → (all_given calls ≡ items) × (ended ≡ Ok tt)

-- A capture is read in one way: the entries, and why and where reading stops, are those of the capture. So it has one file
-- for each of its hosts.
abbrev pub OneConversion : Type 0
OneConversion = (input : List ℕ) (items others : List Item) (v w : Option (SnoopRefusal × ℕ)) → IsReading input items v → IsReading input others w → (items ≡ others) × (v ≡ w)

-- The input is these entries and nothing more, and it is no longer than what is read.
pub record IsWholeCapture (input : List ℕ) (items : List Item) : Type 0 where
  pub each : AllByRecursion IsItem items
  pub whole : input ≡ items_octets items
  pub within : length input ≤ input_limit

-- What a conversion of these entries comes to: no refusal, and where no fault is answered, the file of the host's packets.
abbrev pub GainsItsFile : Side → List Item → Option (List ℕ) → Option (List ℕ) → Result (Unit {0}) SnoopFault → Type 0
GainsItsFile side items old new (Ok done) = new ≡ gained old (file_of (records_of side items))
GainsItsFile side items old new (Err (Refused refusal place)) = ⊥
GainsItsFile side items old new (Err ReadFault) = Unit {0}
GainsItsFile side items old new (Err WriteFault) = Unit {0}
GainsItsFile side items old new (Err NoMemory) = Unit {0}

-- A whole capture is read to its end, and no conversion of it is refused.
abbrev pub CapturesAreConverted : Type 0
CapturesAreConverted = (input : List ℕ) (items : List Item) → IsWholeCapture input items
    → IsReading input items None × ((side : Side) (left old new : Option (List ℕ)) (result : Result (Unit {0}) SnoopFault) → Converts side input left old new result → GainsItsFile side items old new result)
