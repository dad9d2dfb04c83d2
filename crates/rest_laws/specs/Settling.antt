-- How the world settles (this project's own).
use Rattle.std.specs.Prelude.{ℕ, ◌≤◌, List, length}
use Rattle.station_laws.specs.radio_model.specs.Radio.{controller}
use Rattle.station_laws.specs.world_model.specs.Machines.{Upper}
use Rattle.station_laws.specs.world_model.specs.Worlds.{World, Happening, GivingBack, Turns, Misses, Does, Runs, first_world}
use Rattle.station_laws.specs.WorldLaws.{AreSizes}
use Rattle.rest_laws.specs.Premises.{AreOrderly}

-- it happens without a word, and something moves: a controller gives back something that it took
abbrev pub IsOwn : {S T : Type 0} → Happening → World S T → Type 0
IsOwn (GivingBack side) w = 1 ≤ (controller side w.radio).taken
IsOwn (Turns ordinal word) w = ⊥
IsOwn (Misses word) w = ⊥
IsOwn happening w = Unit {0}

-- however such things follow one another from here on, they come to an end
pub data Settles {S T G H : Type 0} (U : Upper S G) (V : Upper T H) : World S T → Type 0 where
  Settling : (w : World S T) → ((happening : Happening) (next : World S T) → IsOwn happening w → Does U V happening w next → Settles U V next) → Settles U V w

-- So it is in each world that a run led to, whatever the ports answer. How many there are has no bound: a machine may say as much as it
-- likes with each thing that it hears.
abbrev pub SettlingEnds : {S T G H : Type 0} → Upper S G → Upper T H → Type 0
SettlingEnds {S} {T} U V =
    (size count : ℕ) (names : List (List ℕ)) (happenings : List Happening) (w : World S T) → AreOrderly U V → AreSizes size count → length names ≤ 0x0EFF
    → Runs U V happenings (first_world U V size count names) w → Settles U V w
