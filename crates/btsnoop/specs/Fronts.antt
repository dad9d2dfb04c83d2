-- What stands at the front of octets, where the file header should begin, or a record.
use Rattle.std.specs.Prelude.{ℕ, ◌≡◌, ◌<◌, ◌≤◌, List, length, take, Some}
use Rattle.btsnoop.specs.declared.fields.Part.{Part}
use Rattle.btsnoop.specs.declared.fields.Part.TheVariants as parts
use Rattle.btsnoop.specs.declared.front.FirstPart.{FirstPart}
use Rattle.btsnoop.specs.declared.front.FirstPart.TheVariants.{Header, Record, Cut, Refused}
use Rattle.btsnoop.specs.Files.{plain_record, IsRecord, file_header, record_octets}
use Rattle.btsnoop.specs.Fields.{fault_in, told_length, IsUnfinished}

-- The first n octets are the file header, or a record; or none of the fields is wrong and at least n octets are wanted; or
-- a field is wrong.
abbrev pub IsFront : Part → List ℕ → FirstPart → Type 0
IsFront part octets (Header n) = (part ≡ parts.Header) × (n ≤ length octets) × (take n octets ≡ file_header)
IsFront part octets (Record item n) = (part ≡ parts.Body) × (n ≤ length octets) × IsRecord (plain_record item) × (take n octets ≡ record_octets (plain_record item))
IsFront part octets (Cut n) = IsUnfinished part octets × (n ≡ told_length part octets) × (n ≤ 65564)
IsFront part octets (Refused refusal place) = (fault_in part octets ≡ Some (refusal, place)) × (place < 16)
