-- The frames that wait in the air, as the capture has them, and where they are more than memory is reserved for (this project's own).
use Rattle.std.specs.Prelude.{ℕ, ◌≡◌, ◌||◌, true, List}
use Rattle.turn_laws.specs.push_terms.specs.declared.word.Way.{Way}
use Rattle.turn_laws.specs.capture.specs.Entries.{Entry}
use Rattle.turn_laws.specs.capture.specs.Frames.{waiting}
use Rattle.turn_laws.specs.capture.specs.Air.{direction}
use Rattle.turn_laws.specs.radio_model.specs.Air.{Hosts, air_after}
use Rattle.turn_laws.specs.radio_model.specs.Queues.{is_crowded}
use Rattle.turn_laws.specs.radio_model.specs.Radio.{Radio, frames}
use Rattle.turn_laws.specs.world_model.specs.Machines.{Upper}
use Rattle.turn_laws.specs.world_model.specs.Worlds.{World, Happening, Runs, all_entries, first_world}
use Rattle.turn_laws.specs.Laws.{IsFront}
use Rattle.turn_laws.specs.WorldLaws.{Fits}
use Rattle.air_laws.specs.AirLaws.{TellsHosts}

-- the frames that wait in a direction after some entries
abbrev pub frames_after : Hosts → ℕ → Way → List Entry → List (List ℕ)
frames_after hosts size way past = waiting (direction way (air_after hosts size past))

-- in one direction more than 256 frames wait, or waiting frames of more than 1,048,576 octets together
abbrev pub IsCrowded : Hosts → ℕ → List Entry → Type 0
IsCrowded hosts size past = (way : Way) × (is_crowded (frames_after hosts size way past) ≡ true)

-- a front of the capture is so
abbrev pub HasCrowdedFront : Hosts → ℕ → List Entry → Type 0
HasCrowdedFront hosts size entries = (past : List Entry) × IsFront past entries × IsCrowded hosts size past

-- ---- the laws

-- the frames that wait in the radio are those that the capture has
abbrev pub FramesAreTold : {S T G H : Type 0} → Upper S G → Upper T H → Type 0
FramesAreTold {S} {T} U V =
    (hosts : Hosts) (size count : ℕ) (names : List (List ℕ)) (happenings : List Happening) (w : World S T) (way : Way) → Fits U V size
    → Runs U V happenings (first_world U V size count names) w → TellsHosts U V hosts happenings (first_world U V size count names)
    → frames_after hosts size way (all_entries happenings) ≡ frames way w.radio

-- so where the radio has no room for a frame that a packet completed, the capture that ends with this packet is crowded
abbrev pub CrowdsAreTold : {S T G H : Type 0} → Upper S G → Upper T H → Type 0
CrowdsAreTold {S} {T} U V =
    (hosts : Hosts) (size count : ℕ) (names : List (List ℕ)) (happenings : List Happening) (w : World S T) → Fits U V size
    → Runs U V happenings (first_world U V size count names) w → TellsHosts U V hosts happenings (first_world U V size count names)
    → (is_crowded w.radio.a.waiting || is_crowded w.radio.b.waiting) ≡ true → IsCrowded hosts size (all_entries happenings)
