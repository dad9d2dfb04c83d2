-- What contracts see of a reader, and what it makes of a piece of a file.
use Rattle.std.specs.Prelude.{ℕ, ◌≡◌, ◌+◌, ◌<◌, ◌≤◌, List, [], ◌++◌, length, take, Option, None, Some, Result, Ok, Err, MatchOption}
use Rattle.h4_framing.specs.Framing.{counted}
use Rattle.btsnoop.specs.declared.refusal.SnoopRefusal.{SnoopRefusal}
use Rattle.btsnoop.specs.declared.refusal.SnoopRefusal.TheVariants.{Truncated}
use Rattle.btsnoop.specs.declared.fields.Part.{Part}
use Rattle.btsnoop.specs.declared.fields.Part.TheVariants as part
use Rattle.btsnoop.specs.declared.reader.SnoopTaken.{SnoopTaken}
use Rattle.btsnoop.specs.declared.reader.SnoopTaken.TheVariants.{Header, Record, More, Refused}
use Rattle.btsnoop.specs.Files.{plain_record, IsRecord, file_header, record_octets}
use Rattle.btsnoop.specs.Fields.{fault_in, IsUnfinished}
use Rattle.btsnoop.specs.Reading.{IsCut}

-- how far a reader has come in a file
pub record Progress : Type 0 where
  -- what stands next: the file header, or a record
  pub part : Part
  -- how many octets were fed before those that are held
  pub before : ℕ
  -- the octets of the file header or the record that is not whole yet
  pub held : List ℕ
  -- why and where the file was refused
  pub fault : Option (SnoopRefusal × ℕ)

-- a reader at the beginning of a file
abbrev pub no_progress : Progress
no_progress = record { part = part.Header; before = 0; held = []; fault = None }

-- a reader that took n octets more, with which what it held is whole
abbrev pub past : Progress → ℕ → Progress
past old n = record { part = part.Body; before = counted old.before (length old.held + n); held = []; fault = None }

-- The reader `old` takes a piece, and is `new`. What it held and n octets of the piece are the file header, or a
-- record; or it holds the piece too, and nothing is whole yet; or a field is wrong, and then it answers that for good.
abbrev pub Takes : Progress → List ℕ → SnoopTaken → Progress → Type 0
Takes old piece (Header n) new =
    (old.fault ≡ None) × (old.part ≡ part.Header) × (0 < n) × (n ≤ length piece) × (file_header ≡ old.held ++ take n piece) × (new ≡ past old n)
Takes old piece (Record item n) new =
    (old.fault ≡ None) × (old.part ≡ part.Body) × (0 < n) × (n ≤ length piece) × IsRecord (plain_record item)
    × (record_octets (plain_record item) ≡ old.held ++ take n piece)
    × (new ≡ past old n)
Takes old piece More new = (old.fault ≡ None) × IsUnfinished old.part (old.held ++ piece) × (new ≡ record old { held = old.held ++ piece })
Takes old piece (Refused refusal place) new =
    MatchOption old.fault ((n : ℕ) × (fault_in old.part (old.held ++ piece) ≡ Some (refusal, n)) × (place ≡ counted old.before n)) (λ fault. fault ≡ (refusal, place))
    × (new ≡ record old { fault = Some (refusal, place) })

-- What the end of the file means to a reader: nothing, where it stands behind the last record; else the place of the
-- file header or the record that is not whole; or the refusal of before.
abbrev pub EndsWith : Progress → Result (Unit {0}) (SnoopRefusal × ℕ) → Type 0
EndsWith now (Ok _) = (now.fault ≡ None) × (now.part ≡ part.Body) × (now.held ≡ [])
EndsWith now (Err fault) = MatchOption now.fault (IsCut now.part now.held × (fault ≡ (Truncated, now.before))) (λ earlier. earlier ≡ fault)
