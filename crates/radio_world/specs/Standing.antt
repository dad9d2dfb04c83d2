-- Where a world stands between two words of its script, and what its end makes of it (this project's own).
use Rattle.std.specs.Prelude.{ℕ, ◌≡◌, ◌≤◌, true, ◌-◌, List, [], ◌∷◌, ◌++◌, Option, length, replicate, unwrap_or, if◌then◌else◌}
use Rattle.push_terms.specs.declared.word.Side.TheVariants.{A, B}
use Rattle.push_terms.specs.declared.outcome.Outcome.{Outcome}
use Rattle.push_terms.specs.declared.outcome.Outcome.TheVariants.{ScriptEnded}
use Rattle.capture.specs.Entries.{Entry, Ended}
use Rattle.radio_model.specs.Queues.{IsSize}
use Rattle.room_laws.specs.world_model.specs.Machines.{Upper}
use Rattle.room_laws.specs.world_model.specs.Pushes.{Pushes, one_ended}
use Rattle.room_laws.specs.world_model.specs.Stations.{first_station}
use Rattle.room_laws.specs.world_model.specs.Worlds.{Happening, IsSettled}
use Rattle.radio_world.specs.Hosts.{Asking, answering}
use Rattle.radio_world.specs.Scenes.{Scene, first_scene, Moment, moment, world_at, Plays}

-- a machine that is this at first
abbrev pub starting : {S G : Type 0} → S → Upper S G → Upper S G
starting s U = record U { first = s }

-- before anything happened
abbrev pub first_moment : {S T G H : Type 0} → Upper S G → Upper T H → (size count : ℕ) → (names : List (List ℕ)) → Moment S T
first_moment U V size count names = moment (first_scene size count names) (first_station U A) (first_station V B)

-- how many packets a controller may take
abbrev pub IsCount : ℕ → Type 0
IsCount count = (1 ≤ count) × (count ≤ 64)

-- A run of the pure world from its beginning led here. What its machines are at first is theirs, as the settings are that they keep; no
-- push goes on.
pub record IsReached {S T G H : Type 0} (U : Upper S G) (V : Upper T H) (at : Moment S T) : Type 0 where
  pub size : ℕ
  pub count : ℕ
  pub names : List (List ℕ)
  pub sized : IsSize size
  pub counted : IsCount count
  pub few : length names ≤ 64
  pub first_a : S
  pub first_b : T
  pub idle : U.is_idle first_a ≡ true
  pub happenings : List Happening
  pub plays : Plays U V happenings (first_moment (starting first_a U) (starting first_b V) size count names) at

-- it was reached and all is settled, whatever the ports answer from now on
pub record Stands {S T G H : Type 0} (U : Upper S G) (V : Upper T H) (scene : Scene) (a : Asking S G) (b : Asking T H) : Type 0 where
  pub reached : (rest_a : List G) (rest_b : List H) → IsReached U V (moment scene (answering rest_a a) (answering rest_b b))
  pub settled : (rest_a : List G) (rest_b : List H) → IsSettled U V (world_at (moment scene (answering rest_a a) (answering rest_b b)))

-- ---- the end

-- the push that goes on ends with what came of it already, or else with the script
abbrev pub last_ended : Option Outcome → Pushes → Pushes
last_ended came pushes = if pushes.going then one_ended (unwrap_or came ScriptEnded) pushes else pushes

abbrev pub last_entries : Option Outcome → Pushes → List Entry
last_entries came pushes = if pushes.going then Ended pushes.begun (unwrap_or came ScriptEnded) ∷ [] else []

-- the outcomes of all objects: those that were not begun end with the script
abbrev pub all_outcomes : Pushes → List Outcome
all_outcomes pushes = pushes.outcomes ++ replicate (length pushes.names - length pushes.outcomes) ScriptEnded
