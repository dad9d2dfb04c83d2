-- What a world notes of its buffers is what its capture has (Core 5.1, Volume 2 Part E, 4.1.1).
use Rattle.std.specs.Prelude.{ℕ, ◌≡◌, ◌≤◌, true, List}
use Rattle.push_terms.specs.declared.word.Side.TheVariants.{A, B}
use Rattle.capture.specs.Peaks.{buffers_peak}
use Rattle.room_laws.specs.world_model.specs.Machines.{Upper}
use Rattle.room_laws.specs.world_model.specs.Worlds.{Happening, all_entries}
use Rattle.room_laws.specs.rest_laws.specs.Premises.{AreOrderly}
use Rattle.radio_world.specs.Scenes.{Moment, Plays}
use Rattle.radio_world.specs.Standing.{IsCount, starting, first_moment}

-- The greatest number of packets of each host that were outstanding, as it was noted, is the greatest at any moment of the capture; whatever the machines
-- are at first, where host a is idle then.
abbrev pub BufferPeaksAreSeen : {S T G H : Type 0} → Upper S G → Upper T H → Type 0
BufferPeaksAreSeen {S} {T} U V =
    (s : S) (t : T) (size count : ℕ) (names : List (List ℕ)) (happenings : List Happening) (at : Moment S T) → AreOrderly U V → U.is_idle s ≡ true → 27 ≤ size → IsCount count
    → Plays U V happenings (first_moment (starting s U) (starting t V) size count names) at
    → (at.scene.medium.peak_a ≡ buffers_peak A (all_entries happenings)) × (at.scene.medium.peak_b ≡ buffers_peak B (all_entries happenings))
