-- What octets tell of the file header or of the record that begins with them. A field is judged once it is whole.
use Rattle.std.specs.Prelude.{ℕ, ◌≡◌, ◌+◌, ◌<◌, Bool, ◌==◌, ◌&&◌, ◌||◌, not, nat_le, nat_lt, if◌then◌else◌, List, length, take, drop, Option, None, Some}
use Rattle.byteorder.specs.Endian.{big_number}
use Rattle.bt_base.specs.Octets.{IsOctets}
use Rattle.btsnoop.specs.declared.refusal.SnoopRefusal.{SnoopRefusal}
use Rattle.btsnoop.specs.declared.refusal.SnoopRefusal.TheVariants.{BadMagic, BadVersion, BadLink, BadLength}
use Rattle.btsnoop.specs.declared.fields.Part.{Part}
use Rattle.btsnoop.specs.declared.fields.Part.TheVariants.{Header, Body}
use Rattle.btsnoop.specs.Files.{Record, identification, version, uart_datalink, longest_packet}

-- the number in the octets of a field
unfoldable pub field : ℕ → ℕ → List ℕ → ℕ
field place width octets = big_number width (drop place octets)

-- the field is whole, and another number than that stands in it
unfoldable pub is_other : ℕ → ℕ → ℕ → List ℕ → Bool
is_other place width number octets = nat_le (place + width) (length octets) && not (field place width octets == number)

-- the first field of a file header that is wrong, and its place
unfoldable pub header_fault : List ℕ → Option (SnoopRefusal × ℕ)
header_fault octets =
    if is_other 0 8 identification octets
    then Some (BadMagic, 0)
    else if is_other 8 4 version octets then Some (BadVersion, 8) else if is_other 12 4 uart_datalink octets then Some (BadLink, 12) else None

-- the two lengths of a record are whole, and more octets are included than a packet can have, or than this one had
unfoldable pub has_bad_length : List ℕ → Bool
has_bad_length octets = nat_le 8 (length octets) && (nat_lt longest_packet (field 4 4 octets) || nat_lt (field 0 4 octets) (field 4 4 octets))

-- why and where no file header, or no record, begins with the octets
unfoldable pub fault_in : Part → List ℕ → Option (SnoopRefusal × ℕ)
fault_in Header octets = header_fault octets
fault_in Body octets = if has_bad_length octets then Some (BadLength, 0) else None

-- how many octets lead up to the end of what is told of its length: all of a file header, the head of a record, and
-- once that is whole all of the record
unfoldable pub told_length : Part → List ℕ → ℕ
told_length Header octets = 16
told_length Body octets = if nat_le 24 (length octets) then 24 + field 4 4 octets else 24

-- the record that begins there
abbrev pub record_at : List ℕ → Record
record_at octets = record { original = field 0 4 octets; flags = field 8 4 octets; drops = field 12 4 octets; time = field 16 8 octets; octets = take (field 4 4 octets) (drop 24 octets) }

-- no field that is whole is wrong, and the file header or the record is not whole
pub record IsUnfinished (part : Part) (octets : List ℕ) : Type 0 where
  pub are_octets : IsOctets octets
  pub sound : fault_in part octets ≡ None
  pub short : length octets < told_length part octets
