-- What a sink gains from the view of a capture with its objects (this project's own).
use Rattle.std.specs.Prelude.{ℕ, ◌≡◌, ◌⊎◌, List, Option, None, Result, Ok, Err}
use Rattle.bt_base.specs.Streams.{gained, GainedFront}
use Rattle.capture.specs.Entries.{Entry}
use Rattle.h4_view.specs.declared.refusal.ViewFault.{ViewFault}
use Rattle.h4_view.specs.declared.refusal.ViewFault.TheVariants.{Refused, ReadFault, WriteFault, NoMemory}
use Rattle.h4_view.specs.Tagged.{IsTaggedView, TaggedViews}
use Rattle.object_lines.specs.Lines.{capture_text}

-- The input is a whole capture, and a front of its text was written.
abbrev pub FrontOfAll : List ℕ → Option (List ℕ) → Option (List ℕ) → Type 0
FrontOfAll input old new = (entries : List Entry) × IsTaggedView input entries None × GainedFront old new (capture_text entries)

-- What a sink gains from an input, of which the source then has `left`: the text of a whole capture. What is no whole capture has
-- the lines of its entries and no objects; so has a capture whose lines could not be read or written to their end.
abbrev pub CaptureViews : List ℕ → Option (List ℕ) → Option (List ℕ) → Option (List ℕ) → Result (Unit {0}) ViewFault → Type 0
CaptureViews input left old new (Ok done) = (entries : List Entry) × IsTaggedView input entries None × (new ≡ gained old (capture_text entries))
CaptureViews input left old new (Err (Refused refusal place)) = TaggedViews input left old new (Err (Refused refusal place))
CaptureViews input left old new (Err ReadFault) = TaggedViews input left old new (Err ReadFault)
CaptureViews input left old new (Err WriteFault) = TaggedViews input left old new (Err WriteFault) ⊎ FrontOfAll input old new
CaptureViews input left old new (Err NoMemory) = TaggedViews input left old new (Err NoMemory) ⊎ FrontOfAll input old new
