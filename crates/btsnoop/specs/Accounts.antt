-- What a reader's value says of all that it was fed and all that it gave.
use Rattle.std.specs.Prelude.{ℕ, ◌≡◌, ◌+◌, List, [], ◌∷◌, ◌++◌, length, take, Some, MatchOption}
use Rattle.std.specs.List.{AllByRecursion, flat_map}
use Rattle.h4_framing.specs.Framing.{counted}
use Rattle.btsnoop.specs.declared.fields.Part.TheVariants as part
use Rattle.btsnoop.specs.declared.reader.SnoopTaken.{SnoopTaken}
use Rattle.btsnoop.specs.declared.reader.SnoopTaken.TheVariants as taken
use Rattle.btsnoop.specs.Files.{Record, plain_record, IsRecord}
use Rattle.btsnoop.specs.Fields.{fault_in, IsUnfinished}
use Rattle.btsnoop.specs.Reading.{lead}
use Rattle.btsnoop.specs.Taking.{Progress, Takes}

-- the record that a piece gave
abbrev pub given : SnoopTaken → List Record
given (taken.Header n) = []
given (taken.Record item n) = plain_record item ∷ []
given taken.More = []
given (taken.Refused refusal place) = []

-- the octets of the piece that were used
abbrev pub used : List ℕ → SnoopTaken → List ℕ
used piece (taken.Header n) = take n piece
used piece (taken.Record item n) = take n piece
used piece taken.More = piece
used piece (taken.Refused refusal place) = piece

-- A reader that was fed these octets, in whatever pieces, gave these records. They are the first of the octets, behind
-- the file header, and it holds what stands behind them, which is not whole; or it was refused where and why a field
-- behind them is wrong.
pub record Accounts (fed : List ℕ) (items : List Record) (now : Progress) : Type 0 where
  pub each : AllByRecursion IsRecord items
  pub early : now.part ≡ part.Header → items ≡ []
  pub kept : MatchOption now.fault
      ((fed ≡ lead now.part items ++ now.held) × IsUnfinished now.part now.held × (now.before ≡ counted 0 (length (lead now.part items))))
      (λ fault. (rest : List ℕ) × (place : ℕ) × (fed ≡ lead now.part items ++ rest) × (fault_in now.part rest ≡ Some (fault.0, place)) × (fault.1 ≡ counted 0 (length (lead now.part items) + place)))

-- The reader `old` takes one piece after the other, each with what it answers, and is `new`. What it leaves of a piece
-- may be the next piece.
abbrev pub TakesAll : Progress → List (List ℕ × SnoopTaken) → Progress → Type 0
TakesAll old [] new = new ≡ old
TakesAll old (call ∷ calls) new = (between : Progress) × Takes old call.0 call.1 between × TakesAll between calls new

-- the octets that were used of all the pieces
abbrev pub all_used : List (List ℕ × SnoopTaken) → List ℕ
all_used calls = flat_map (λ call. used call.0 call.1) calls

-- the records that all the pieces gave
abbrev pub all_given : List (List ℕ × SnoopTaken) → List Record
all_given calls = flat_map (λ call. given call.1) calls
