-- How the text of a scenario is had from its source (this project's own).
use Rattle.std.specs.Prelude.{ℕ, ◌≡◌, ◌+◌, ◌-◌, ◌^◌, ◌<◌, ◌≤◌, List, [], take, drop, Option, Some, Result, Ok, Err, IsErrOf}
use Rattle.std.specs.Global.{Vec}
use Rattle.bt_base.specs.Counts.{HasRisen}
use Rattle.push_script.specs.Reading.{text_limit}
use Rattle.btpush_forms.specs.declared.gathering.GatherFault.{GatherFault}
use Rattle.btpush_forms.specs.declared.gathering.GatherFault.TheVariants.{ReadFault}

-- One octet more than a text may have is kept: by it a text that is too long is known.
abbrev pub kept_limit : ℕ
kept_limit = text_limit + 1

-- A source is read to its end. For the sake of one without an end reading stops at that many octets.
abbrev pub reading_limit : ℕ
reading_limit = 2 ^ 64 - 1

-- what is left of an input that was read to its end
abbrev pub unread : List ℕ → Option (List ℕ)
unread input = Some (drop reading_limit input)

-- What comes of reading a source that had `input` left and then has `left`: its first octets are kept, and it was read
-- to its end; or, after a fault, only some of it was read.
abbrev pub Gathers : List ℕ → Option (List ℕ) → List ℕ → Result (Unit {0}) GatherFault → Type 0
Gathers input left text (Ok done) = (text ≡ take kept_limit input) × (left ≡ unread input)
Gathers input left text (Err fault) = (n : ℕ) × (left ≡ Some (drop n input))

-- the text that was had, with what comes of reading its source
abbrev pub GathersText : List ℕ → Option (List ℕ) → Result (Vec ℕ) GatherFault → Type 0
GathersText input left (Ok text) = Gathers input left text.items (Ok tt)
GathersText input left (Err fault) = Gathers input left [] (Err fault)

-- A fault of reading comes only where the source's count of faults rose, and a count that rises is answered.
pub record BlamesSource {A : Type 0} (source source' : ℕ) (result : Result A GatherFault) : Type 0 where
  pub stays : source ≤ source'
  pub read : IsErrOf result ReadFault → HasRisen source source'
  pub only_read : source < source' → IsErrOf result ReadFault
