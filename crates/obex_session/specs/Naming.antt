-- The UTF-16 units of a name (The Unicode Standard, 3.9).
use Rattle.std.specs.Prelude.{ℕ, ◌<◌, ◌^◌, List}
use Rattle.std.specs.List.{AllByRecursion}
use Rattle.std.specs.Str.{IsUtf8}
use Rattle.obex_session.specs.PutPackets.{units_in}

-- each unit of a name that is a text in UTF-8 stands in two octets
abbrev pub NamesHaveUnits : Type 0
NamesHaveUnits = (name : List ℕ) → IsUtf8 name → AllByRecursion (λ unit. unit < 2 ^ 16) (units_in name)
