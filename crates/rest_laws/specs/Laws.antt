-- A world that is settled is at rest, for every two machines and whatever their ports answer.
use Rattle.std.specs.Prelude.{ℕ, ◌≤◌, List, length}
use Rattle.station_laws.specs.world_model.specs.Machines.{Upper}
use Rattle.station_laws.specs.world_model.specs.Worlds.{World, Happening, Runs, IsSettled, IsAtRest, first_world}
use Rattle.station_laws.specs.WorldLaws.{AreSizes}
use Rattle.rest_laws.specs.Premises.{AreOrderly}

-- Where nothing moves without a word, nothing is under way, and no host wants the link otherwise than it is. There are handles for
-- all links, since each push has one at most.
abbrev pub SettledRests : {S T G H : Type 0} → Upper S G → Upper T H → Type 0
SettledRests {S} {T} U V =
    (size count : ℕ) (names : List (List ℕ)) (happenings : List Happening) (w : World S T) → AreOrderly U V → AreSizes size count → length names ≤ 0x0EFF
    → Runs U V happenings (first_world U V size count names) w → IsSettled U V w → IsAtRest U V w
