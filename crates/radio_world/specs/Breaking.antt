-- A run that broke off: what happened as far as the trace has it whole, and what stood in the trace next (this project's own).
use Rattle.std.specs.Prelude.{ℕ, ◌≡◌, ◌≤◌, ◌+◌, ◌⊎◌, true, List, ◌++◌, length, Option, Some}
use Rattle.std.specs.List.{AllByRecursion}
use Rattle.bt_base.specs.Streams.{GainedFront}
use Rattle.push_terms.specs.declared.word.Side.{Side}
use Rattle.push_terms.specs.declared.word.Word.{Word}
use Rattle.push_terms.specs.declared.outcome.Outcome.{Outcome}
use Rattle.capture.specs.Entries.{Begun, Ended, IsEntry, entry_octets, capture_octets}
use Rattle.radio_model.specs.Radio.{is_apart, is_quiet}
use Rattle.room_laws.specs.world_model.specs.Machines.{Upper}
use Rattle.room_laws.specs.world_model.specs.Pushes.{next_name}
use Rattle.room_laws.specs.world_model.specs.Worlds.{Happening, all_entries, all_words}
use Rattle.radio_world.specs.Hosts.{Asking}
use Rattle.radio_world.specs.Leaving.{Medium}
use Rattle.radio_world.specs.Halves.{Half, Motion, happenings_of, MakesAll, half_of, Goes}
use Rattle.radio_world.specs.Scenes.{Scene, Moment, Plays, Stage, moment_of, Advances}

-- the port was not asked any more, or it lacked memory
abbrev pub IsLeft : {P : Type 0} → (P → P → Type 0) → P → P → Type 0
IsLeft Lacked port port' = (port' ≡ port) ⊎ Lacked port port'

-- the port gave more answers, or it lacked memory
abbrev pub WentOn : {G P : Type 0} → (P → List G → P → Type 0) → (P → P → Type 0) → P → P → Type 0
WentOn {G} Answers Lacked port port' = ((used : List G) × Answers port used port') ⊎ Lacked port port'

-- what stands above its line is that of a host in code with this port
abbrev pub IsOf : {S G P X : Type 0} → (X → P → Asking S G) → Asking S G → P → Type 0
IsOf {X = X} station host port = (own : X) × (host.upper ≡ (station own port).upper)

-- Between a host and the radio: so much happened, and the trace has its entries. Behind them it has a front of the next entry, if one was
-- begun: what it tells of may happen next, and its port was not asked of it yet, or lacked memory in it.
pub record GoesBroken {S G P X : Type 0} (U : Upper S G) (side : Side) (Answers : P → List G → P → Type 0) (Lacked : P → P → Type 0) (station : X → P → Asking S G) (medium : Medium) (host : Asking S G) (port port' : P) (trace trace' : Option (List ℕ)) : Type 0 where
  pub medium_then : Medium
  pub host_then : Asking S G
  pub port_then : P
  pub trace_then : Option (List ℕ)
  pub goes : Goes U side Answers medium medium_then host host_then port port_then trace trace_then
  pub own : IsOf station host_then port_then
  pub next : List Motion
  pub few : length (all_entries (happenings_of side next)) ≤ 1
  pub may : (rest : List G) → (half : Half S) × MakesAll U side next (half_of medium_then host_then rest) half
  pub front : GainedFront trace_then trace' (capture_octets (all_entries (happenings_of side next)))
  pub each : AllByRecursion IsEntry (all_entries (happenings_of side next))
  pub left : IsLeft Lacked port_then port'

-- the begin of a push was being written, or host a did not take it
pub record BeginBroken {S G P : Type 0} (U : Upper S G) (Lacked : P → P → Type 0) (scene : Scene) (a : Asking S G) (shelf shelf' : P) (trace trace' : Option (List ℕ)) : Type 0 where
  pub idle : (rest : List G) → U.is_idle (a.upper rest) ≡ true
  pub name : List ℕ
  pub next : next_name scene.pushes ≡ Some name
  pub front : GainedFront trace trace' (entry_octets (Begun (scene.pushes.begun + 1)))
  pub entry : IsEntry (Begun (scene.pushes.begun + 1))
  pub left : IsLeft Lacked shelf shelf'

-- the end of a push was being written
pub record EndBroken {S G : Type 0} (U : Upper S G) (scene : Scene) (a : Asking S G) (trace trace' : Option (List ℕ)) : Type 0 where
  pub going : scene.pushes.going ≡ true
  pub apart : is_apart scene.medium.radio.phase ≡ true
  pub quiet : is_quiet scene.medium.radio ≡ true
  pub idle : (rest : List G) → U.is_idle (a.upper rest) ≡ true
  pub outcome : Outcome
  pub came : (rest : List G) → U.outcome (a.upper rest) ≡ Some outcome
  pub front : GainedFront trace trace' (entry_octets (Ended scene.pushes.begun outcome))
  pub entry : IsEntry (Ended scene.pushes.begun outcome)

-- In the world: a run of the pure world, as the trace has it whole, and behind it a front of the next entry, if one was begun. What that
-- tells of may happen next, whatever the ports answer. The inbox is as it was before, or lacked memory in it; the shelf gave more answers,
-- or lacked memory. The words that were turned, and that of the entry, are the first of these words.
pub record Broken {S T G H P Q Y : Type 0} (U : Upper S G) (V : Upper T H) (AnswersA : P → List G → P → Type 0) (AnswersB : Q → List H → Q → Type 0) (LackedA : P → P → Type 0) (LackedB : Q → Q → Type 0) (station_b : Y → Q → Asking T H) (words : List Word) (old : Stage S T G H P Q) (shelf : P) (inbox : Q) (trace : Option (List ℕ)) : Type 0 where
  pub mid : Stage S T G H P Q
  pub turned : List Word
  pub advances : Advances U V AnswersA AnswersB turned old mid
  pub own_b : IsOf station_b mid.b mid.inbox
  pub next : List Happening
  pub few : length (all_entries next) ≤ 1
  pub may : (rest_a : List G) (rest_b : List H) → (new : Moment S T) × Plays U V next (moment_of mid rest_a rest_b) new
  pub later : List Word
  pub words_are : words ≡ turned ++ (all_words next ++ later)
  pub front : GainedFront mid.trace trace (capture_octets (all_entries next))
  pub each : AllByRecursion IsEntry (all_entries next)
  pub shelf_went : WentOn AnswersA LackedA mid.shelf shelf
  pub inbox_left : IsLeft LackedB mid.inbox inbox
