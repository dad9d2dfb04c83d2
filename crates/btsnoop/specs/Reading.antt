-- How any octets are read as a file: the records that they have, and where and why they stop being a file. This knows
-- nothing of the pieces in which the octets come.
use Rattle.std.specs.Prelude.{ℕ, ◌≡◌, ◌≢◌, ◌+◌, List, [], ◌++◌, length, Option, None, Some}
use Rattle.std.specs.List.{AllByRecursion}
use Rattle.btsnoop.specs.declared.refusal.SnoopRefusal.{SnoopRefusal}
use Rattle.btsnoop.specs.declared.refusal.SnoopRefusal.TheVariants.{Truncated}
use Rattle.btsnoop.specs.declared.fields.Part.{Part}
use Rattle.btsnoop.specs.declared.fields.Part.TheVariants.{Header, Body}
use Rattle.btsnoop.specs.Files.{Record, IsRecord, file_of}
use Rattle.btsnoop.specs.Fields.{fault_in, IsUnfinished}

-- what stands before the file header, and before the next record
abbrev pub lead : Part → List Record → List ℕ
lead Header items = []
lead Body items = file_of items

-- the octets end within the file header, be it before its first octet, or within a record
abbrev pub IsCut : Part → List ℕ → Type 0
IsCut Header rest = IsUnfinished Header rest
IsCut Body rest = (rest ≢ []) × IsUnfinished Body rest

-- Where reading stops, at octets from an offset on: behind the last record; where the octets are cut, at the first
-- octet of what is not whole; or at a field that is wrong.
pub data Stops (part : Part) (from : ℕ) (rest : List ℕ) (ending : Option (SnoopRefusal × ℕ)) : Type 0 where
  AtEnd : part ≡ Body → rest ≡ [] → ending ≡ None → Stops part from rest ending
  Within : IsCut part rest → ending ≡ Some (Truncated, from) → Stops part from rest ending
  Wrong : (refusal : SnoopRefusal) (place : ℕ) → fault_in part rest ≡ Some (refusal, place) → ending ≡ Some (refusal, from + place) → Stops part from rest ending

-- The octets are read as these records, behind a file header, and then reading stops so; or it stops before the first.
pub record Reads (octets : List ℕ) (items : List Record) (ending : Option (SnoopRefusal × ℕ)) : Type 0 where
  pub part : Part
  pub each : AllByRecursion IsRecord items
  pub early : part ≡ Header → items ≡ []
  pub rest : List ℕ
  pub whole : octets ≡ lead part items ++ rest
  pub stops : Stops part (length (lead part items)) rest ending
