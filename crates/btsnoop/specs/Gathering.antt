-- How a file header or a record that came in two pieces or more is put together.
use Rattle.std.specs.Prelude.{ℕ, ◌≡◌, ◌<◌, ◌≤◌, List, ◌++◌, length, take, None, Some}
use Rattle.btsnoop.specs.declared.fields.Part.{Part}
use Rattle.btsnoop.specs.declared.gathering.Gathered.{Gathered}
use Rattle.btsnoop.specs.declared.gathering.Gathered.TheVariants.{Whole, More, Refused}
use Rattle.btsnoop.specs.Fields.{fault_in, told_length, IsUnfinished}

-- The buffer held some octets, and holds now all of what they begin, with n octets of the piece; or them and the
-- piece; or a field is wrong, and the buffer has still what it held in front.
abbrev pub Gathers : Part → List ℕ → List ℕ → Gathered → List ℕ → Type 0
Gathers part held piece (Whole n) buffer = (0 < n) × (n ≤ length piece) × (buffer ≡ held ++ take n piece) × (fault_in part buffer ≡ None) × (told_length part buffer ≡ length buffer)
Gathers part held piece More buffer = (buffer ≡ held ++ piece) × IsUnfinished part (held ++ piece)
Gathers part held piece (Refused refusal place) buffer = (take (length held) buffer ≡ held) × (length held ≤ length buffer) × (fault_in part (held ++ piece) ≡ Some (refusal, place))
