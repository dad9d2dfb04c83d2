-- How much the capture has of what happens (this project's own).
use Rattle.std.specs.Prelude.{ℕ, ◌≤◌, Bool, true, false, List, length, Option}
use Rattle.push_terms.specs.declared.word.Side.{Side}
use Rattle.push_terms.specs.declared.word.Word.{Word}
use Rattle.room_laws.specs.world_model.specs.Machines.{Upper}
use Rattle.room_laws.specs.world_model.specs.Worlds.{all_entries}
use Rattle.radio_world.specs.Hosts.{Asking}
use Rattle.radio_world.specs.Leaving.{Medium}
use Rattle.radio_world.specs.Halves.{happenings_of, Goes}
use Rattle.radio_world.specs.Scenes.{Stage, Advances}

abbrev pub one_if : Bool → ℕ
one_if true = 1
one_if false = 0

-- so many entries at least tell of what happened between a host and the radio
pub record GoesBy {S G P : Type 0} (count : ℕ) (U : Upper S G) (side : Side) (Answers : P → List G → P → Type 0) (medium medium' : Medium) (old new : Asking S G) (port port' : P) (trace trace' : Option (List ℕ)) : Type 0 where
  pub goes : Goes U side Answers medium medium' old new port port' trace trace'
  pub many : count ≤ length (all_entries (happenings_of side goes.motions))

-- and in the world
pub record AdvancesBy {S T G H P Q : Type 0} (count : ℕ) (U : Upper S G) (V : Upper T H) (AnswersA : P → List G → P → Type 0) (AnswersB : Q → List H → Q → Type 0) (words : List Word) (old new : Stage S T G H P Q) : Type 0 where
  pub advances : Advances U V AnswersA AnswersB words old new
  pub many : count ≤ length (all_entries advances.happenings)
