-- What the capture of a run of the world has of the buffers of each controller, for every two machines.
use Rattle.std.specs.Prelude.{ℕ, List}
use Rattle.turn_laws.specs.push_terms.specs.declared.word.Side.TheVariants.{A, B}
use Rattle.turn_laws.specs.capture.specs.Buffers.{KeepsWithin}
use Rattle.turn_laws.specs.radio_model.specs.Honest.{AreHonest}
use Rattle.turn_laws.specs.world_model.specs.Machines.{Upper}
use Rattle.turn_laws.specs.world_model.specs.Worlds.{World, Happening, Runs, all_entries, first_world}
use Rattle.turn_laws.specs.WorldLaws.{Fits}

-- at each moment a host has no more packets outstanding than its controller takes, and no more than 64
abbrev pub BuffersAreKept : {S T G H : Type 0} → Upper S G → Upper T H → Type 0
BuffersAreKept {S} {T} U V =
    (size count : ℕ) (names : List (List ℕ)) (happenings : List Happening) (w : World S T) → Fits U V size → Runs U V happenings (first_world U V size count names) w
    → KeepsWithin A count (all_entries happenings) × KeepsWithin B count (all_entries happenings)

-- controllers are honest, and what goes out of a host is of the last link that it was told of
abbrev pub CapturesAreHonest : {S T G H : Type 0} → Upper S G → Upper T H → Type 0
CapturesAreHonest {S} {T} U V =
    (size count : ℕ) (names : List (List ℕ)) (happenings : List Happening) (w : World S T) → Fits U V size → Runs U V happenings (first_world U V size count names) w
    → AreHonest (all_entries happenings)
