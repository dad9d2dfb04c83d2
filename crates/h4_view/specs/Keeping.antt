-- What a view of a capture keeps of it (this project's own).
use Rattle.std.specs.Prelude.{◌≡◌, cond, Bool, ℕ, List, [], Option, is_some, Result, Ok, Err}
use Rattle.std.specs.List.{filter}
use Rattle.std.specs.Global.{Vec}
use Rattle.push_terms.specs.declared.word.Side.{Side}
use Rattle.push_terms.specs.declared.word.Side.TheVariants as sides
use Rattle.capture.specs.Entries.{Entry, IsCapture, capture_octets}
use Rattle.capture.specs.Moves.{move_of}
use Rattle.h4_view.specs.declared.refusal.ViewFault.{ViewFault}
use Rattle.h4_view.specs.Tagged.{TaggedViews}

-- the entry is a packet that moved between that host and its controller
abbrev pub is_of : Side → Entry → Bool
is_of side entry = is_some (move_of side entry)

abbrev pub of_side : Side → List Entry → List Entry
of_side side entries = filter (is_of side) entries

-- the octets of an entry where it is such a packet
abbrev pub kept_of : Side → Entry → List ℕ → List ℕ
kept_of side entry octets = cond (is_of side entry) octets []

-- What a sink gains from the view of a capture, of which the source then has `left`. Of a whole capture the packets of host b
-- are answered: these octets are theirs.
abbrev pub ShowsAndKeeps : List ℕ → Option (List ℕ) → Option (List ℕ) → Option (List ℕ) → Result (Vec ℕ) ViewFault → Type 0
ShowsAndKeeps input left old new (Ok kept) = TaggedViews input left old new (Ok tt) × ((entries : List Entry) → IsCapture input entries → kept.items ≡ capture_octets (of_side sides.B entries))
ShowsAndKeeps input left old new (Err fault) = TaggedViews input left old new (Err fault)
