-- How a packet that came in two pieces or more is put together.
use Rattle.std.specs.Prelude.{ℕ, ◌≡◌, ◌<◌, ◌≤◌, List, ◌++◌, length, take}
use Rattle.h4_framing.specs.Stream.{IsUnfinished, GoesWrong}
use Rattle.h4_framing.specs.Extents.{extent}
use Rattle.h4_framing.specs.declared.extent.Extent.TheVariants.{Known}
use Rattle.h4_framing.specs.declared.gathering.Gathered.{Gathered}
use Rattle.h4_framing.specs.declared.gathering.Gathered.TheVariants.{Whole, More, Refused}

-- the buffer held some octets, and holds now the packet that they and n octets of the piece are, or them and the
-- piece; or they go wrong within the piece
abbrev pub Gathers : ℕ → List ℕ → List ℕ → Gathered → List ℕ → Type 0
Gathers limit held piece (Whole n) buffer = (0 < n) × (n ≤ length piece) × (buffer ≡ held ++ take n piece) × (extent limit buffer ≡ Known (length buffer))
Gathers limit held piece More buffer = (buffer ≡ held ++ piece) × IsUnfinished limit (held ++ piece)
Gathers limit held piece (Refused refusal place) buffer = (take (length held) buffer ≡ held) × (length held ≤ length buffer) × GoesWrong limit (held ++ piece) refusal place
