-- Two hosts that run, what lies between them, and what happens in it (this project's own).
use Rattle.std.specs.Prelude.{ℕ, ◌≡◌, ◌+◌, ◌&&◌, Bool, true, List, [], ◌∷◌, ◌++◌, Option, Some}
use Rattle.std.specs.List.{AllByRecursion}
use Rattle.bt_base.specs.Streams.{gained}
use Rattle.push_terms.specs.declared.word.Side.{Side}
use Rattle.push_terms.specs.declared.word.Word.{Word}
use Rattle.push_terms.specs.declared.outcome.Outcome.{Outcome}
use Rattle.capture.specs.Entries.{Begun, Ended, IsEntry, entry_octets, capture_octets}
use Rattle.radio_model.specs.Radio.{is_apart, is_quiet}
use Rattle.room_laws.specs.world_model.specs.Machines.{Upper, Opening}
use Rattle.room_laws.specs.world_model.specs.Pushes.{Pushes, no_pushes, next_name, one_begun, one_ended}
use Rattle.room_laws.specs.world_model.specs.Stations.{Station, told}
use Rattle.room_laws.specs.world_model.specs.Worlds.{World, Happening, Departure, Does, all_entries, all_words}
use Rattle.radio_world.specs.Hosts.{Asking, answering, Reacts}
use Rattle.radio_world.specs.Leaving.{Medium, first_medium, in_radio, noted}

-- what lies between the hosts, the pushes, and how many words were turned
pub record Scene : Type 0 where
  pub medium : Medium
  pub pushes : Pushes
  pub turned : ℕ

abbrev pub first_scene : (size count : ℕ) → (names : List (List ℕ)) → Scene
first_scene size count names = record { medium = first_medium size count; pushes = no_pushes names; turned = 0 }

-- with both hosts
pub record Moment (S T : Type 0) : Type 0 where
  pub scene : Scene
  pub a : Station S
  pub b : Station T

abbrev pub moment : {S T : Type 0} → Scene → Station S → Station T → Moment S T
moment scene a b = record { scene = scene; a = a; b = b }

abbrev pub world_at : {S T : Type 0} → Moment S T → World S T
world_at at = record { radio = at.scene.medium.radio; a = at.a; b = at.b; pushes = at.scene.pushes; turned = at.scene.turned }

-- ---- what happens, and what is noted of it

-- after each packet out of a host it is noted how many are outstanding
abbrev pub noted_of : Happening → Medium → Medium
noted_of (Departure side order) medium = noted side medium
noted_of happening medium = medium

pub record Happens {S T G H : Type 0} (U : Upper S G) (V : Upper T H) (happening : Happening) (old new : Moment S T) : Type 0 where
  pub does : Does U V happening (world_at old) (world_at new)
  pub notes : new.scene.medium ≡ noted_of happening (in_radio new.scene.medium.radio old.scene.medium)

-- one after the other: a run of the pure world
abbrev pub Plays : {S T G H : Type 0} → Upper S G → Upper T H → List Happening → Moment S T → Moment S T → Type 0
Plays U V [] old new = new ≡ old
Plays {S} {T} U V (happening ∷ happenings) old new = (mid : Moment S T) × Happens U V happening old mid × Plays U V happenings mid new

-- ---- hosts whose ports have still to answer

-- a scene with its hosts, their ports and the trace, where it is told
pub record Stage (S T G H P Q : Type 0) : Type 0 where
  pub scene : Scene
  pub a : Asking S G
  pub b : Asking T H
  pub shelf : P
  pub inbox : Q
  pub trace : Option (List ℕ)

abbrev pub stage : {S T G H P Q : Type 0} → Scene → Asking S G → Asking T H → P → Q → Option (List ℕ) → Stage S T G H P Q
stage scene a b shelf inbox trace = record { scene = scene; a = a; b = b; shelf = shelf; inbox = inbox; trace = trace }

abbrev pub moment_of : {S T G H P Q : Type 0} → Stage S T G H P Q → List G → List H → Moment S T
moment_of at for_a for_b = moment at.scene (answering for_a at.a) (answering for_b at.b)

-- A run of the pure world, as the trace gained it, in which these words were turned. The ports gave the answers `used_a` and
-- `used_b` in it; whatever they answer later, the hosts are where these and those lead.
pub record Advances {S T G H P Q : Type 0} (U : Upper S G) (V : Upper T H) (AnswersA : P → List G → P → Type 0) (AnswersB : Q → List H → Q → Type 0) (words : List Word) (old new : Stage S T G H P Q) : Type 0 where
  pub happenings : List Happening
  pub words_are : all_words happenings ≡ words
  pub used_a : List G
  pub used_b : List H
  pub answered_a : AnswersA old.shelf used_a new.shelf
  pub answered_b : AnswersB old.inbox used_b new.inbox
  pub plays : (rest_a : List G) (rest_b : List H) → Plays U V happenings (moment_of old (used_a ++ rest_a) (used_b ++ rest_b)) (moment_of new rest_a rest_b)
  pub written : new.trace ≡ gained old.trace (capture_octets (all_entries happenings))
  pub each : AllByRecursion IsEntry (all_entries happenings)

-- a push goes on, there is no link, and nothing is on its way to a host
abbrev pub may_end : Scene → Bool
may_end scene = scene.pushes.going && (is_apart scene.medium.radio.phase && is_quiet scene.medium.radio)

-- ---- one thing that happens

-- host a is idle and an object is left: the next push begins, and host a hears of it
pub record Begins {S G P : Type 0} (U : Upper S G) (side : Side) (Answers : P → List G → P → Type 0) (old new : Scene) (a a' : Asking S G) (shelf shelf' : P) (trace trace' : Option (List ℕ)) : Type 0 where
  pub idle : (rest : List G) → U.is_idle (a.upper rest) ≡ true
  pub name : List ℕ
  pub next : next_name old.pushes ≡ Some name
  pub scene_is : new ≡ record old { pushes = one_begun old.pushes }
  pub reacts : Reacts U side Answers (λ used. told U used (Opening name)) a a' shelf shelf'
  pub written : trace' ≡ gained trace (entry_octets (Begun (old.pushes.begun + 1)))
  pub entry : IsEntry (Begun (old.pushes.begun + 1))

-- host a is idle again, and nothing is on its way to a host: the push that goes on ends
pub record Ends {S G : Type 0} (U : Upper S G) (old new : Scene) (a : Asking S G) (trace trace' : Option (List ℕ)) : Type 0 where
  pub going : old.pushes.going ≡ true
  pub apart : is_apart old.medium.radio.phase ≡ true
  pub quiet : is_quiet old.medium.radio ≡ true
  pub idle : (rest : List G) → U.is_idle (a.upper rest) ≡ true
  pub outcome : Outcome
  pub came : (rest : List G) → U.outcome (a.upper rest) ≡ Some outcome
  pub scene_is : new ≡ record old { pushes = one_ended outcome old.pushes }
  pub written : trace' ≡ gained trace (entry_octets (Ended old.pushes.begun outcome))
  pub entry : IsEntry (Ended old.pushes.begun outcome)
