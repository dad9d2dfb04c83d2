-- The units that an end keeps.
use Rattle.std.specs.Prelude.{ℕ, ◌≤◌, List, map, take, length, vec_capacity}
use Rattle.wire_model.specs.Machine.{Unit}
use Rattle.three_wire.specs.declared.held.Held.{Held}

abbrev pub unit_of : Held → Unit
unit_of held = record { kind = held.kind; octets = held.octets.items }

-- the units that the first so many rooms keep
abbrev pub units_of : ℕ → List Held → List Unit
units_of count rooms = map unit_of (take count rooms)

-- there is room for each unit
abbrev pub HasRoom : Held → Type 0
HasRoom held = 4095 ≤ vec_capacity held.octets

-- a unit is of a type that carries units, and no longer than a payload may be
pub record IsUnit (unit : Unit) : Type 0 where
  pub above : 1 ≤ unit.kind
  pub below : unit.kind ≤ 4
  pub fits : length unit.octets ≤ 4095
