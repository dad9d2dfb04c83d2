-- What the capture and the script have where a world wants memory (this project's own).
use Rattle.std.specs.Prelude.{ℕ, ◌≡◌, ◌≤◌, ◌<◌, ◌^◌, ◌⊎◌, ◌++◌, true, List, length, Option, Some}
use Rattle.std.specs.List.{AllByRecursion}
use Rattle.bt_base.specs.Streams.{gained}
use Rattle.push_terms.specs.declared.word.Side.TheVariants.{A, B}
use Rattle.push_terms.specs.declared.word.Word.{Word}
use Rattle.push_script.specs.Runs.{IsRun}
use Rattle.capture.specs.Air.{words_of}
use Rattle.capture.specs.Entries.{Entry, capture_octets}
use Rattle.radio_model.specs.Air.{Hosts}
use Rattle.radio_model.specs.Queues.{IsSize}
use Rattle.room_laws.specs.world_model.specs.Machines.{Upper}
use Rattle.room_laws.specs.world_model.specs.Stations.{first_station}
use Rattle.room_laws.specs.world_model.specs.Worlds.{Happening, first_world, all_entries}
use Rattle.room_laws.specs.air_laws.specs.AirLaws.{TellsHosts}
use Rattle.room_laws.specs.air_laws.specs.Crowded.{IsCrowded}
use Rattle.room_laws.specs.rest_laws.specs.Premises.{AreOrderly}
use Rattle.radio_world.specs.Hosts.{answering}
use Rattle.radio_world.specs.Scenes.{first_scene, Stage}
use Rattle.radio_world.specs.Standing.{starting}
use Rattle.radio_world.specs.Shortages.{Overruns, Wants}

-- nothing has happened yet; what its machines are at first is theirs
pub record IsNew {S T G H P Q : Type 0} (U : Upper S G) (V : Upper T H) (size count : ℕ) (names : List (List ℕ)) (s : S) (t : T) (at : Stage S T G H P Q) : Type 0 where
  pub scene_is : at.scene ≡ first_scene size count names
  pub idle : U.is_idle s ≡ true
  pub fresh_a : (rest : List G) → answering rest at.a ≡ first_station (starting s U) A
  pub fresh_b : (rest : List H) → answering rest at.b ≡ first_station (starting t V) B

-- A run from there wants memory for the air only where its capture, of which nothing is left out, is crowded: so it is wherever the
-- capture tells of timers and check words what the machines answer.
abbrev pub OverrunsAreCrowded : {S T G H P Q : Type 0} → Upper S G → Upper T H → (P → List G → P → Type 0) → (Q → List H → Q → Type 0) → Type 0
OverrunsAreCrowded {S} {T} {G} {H} {P} {Q} U V AnswersA AnswersB =
    (hosts : Hosts) (size count : ℕ) (names : List (List ℕ)) (s : S) (t : T) (words : List Word) (old : Stage S T G H P Q) (shelf : P) (inbox : Q) (trace : Option (List ℕ))
    → AreOrderly U V → IsSize size → IsNew U V size count names s t old → (over : Overruns U V AnswersA AnswersB words old shelf inbox trace)
    → TellsHosts (starting s U) (starting t V) hosts over.advances.happenings (first_world (starting s U) (starting t V) size count names)
    → IsCrowded hosts size (all_entries over.advances.happenings) × (trace ≡ gained old.trace (capture_octets (all_entries over.advances.happenings)))

-- the words of a script of at most 2^32 lines can be counted
abbrev pub ScriptsAreCounted : Type 0
ScriptsAreCounted = (script : List (ℕ × Word)) → AllByRecursion IsRun script → length script ≤ 2 ^ 32 → length (words_of script) < 2 ^ 64

-- So from a new world on, with a script of at most 2^32 lines and a trace that is told, a world wants memory only where a port lacked
-- some, or where the capture so far is crowded.
abbrev pub WantsAreTold : {S T G H P Q : Type 0} → Upper S G → Upper T H → (P → List G → P → Type 0) → (Q → List H → Q → Type 0) → (P → P → Type 0) → (Q → Q → Type 0) → Type 0
WantsAreTold {S} {T} {G} {H} {P} {Q} U V AnswersA AnswersB LackedA LackedB =
    (hosts : Hosts) (size count : ℕ) (names : List (List ℕ)) (s : S) (t : T) (script : List (ℕ × Word)) (old : Stage S T G H P Q) (shelf : P) (inbox : Q) (before octets : List ℕ)
    → AreOrderly U V → IsSize size → IsNew U V size count names s t old → AllByRecursion IsRun script → length script ≤ 2 ^ 32 → old.trace ≡ Some before
    → ((happenings : List Happening) → TellsHosts (starting s U) (starting t V) hosts happenings (first_world (starting s U) (starting t V) size count names))
    → Wants U V AnswersA AnswersB LackedA LackedB (words_of script) old shelf inbox (Some octets)
    → (LackedA old.shelf shelf ⊎ LackedB old.inbox inbox) ⊎ ((entries : List Entry) × (octets ≡ before ++ capture_octets entries) × IsCrowded hosts size entries)
