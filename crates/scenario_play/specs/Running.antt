-- A world of any two hosts that goes from its beginning to the end of its last push (this project's own).
use Rattle.std.specs.Prelude.{ℕ, ◌≡◌, List, [], Option}
use Rattle.std.specs.List.{AllByRecursion}
use Rattle.bt_base.specs.Streams.{gained}
use Rattle.push_terms.specs.declared.word.Word.{Word}
use Rattle.capture.specs.Entries.{capture_octets, IsEntry}
use Rattle.noting_laws.specs.world_model.specs.Machines.{Upper}
use Rattle.radio_world.specs.Scenes.{Scene, Stage, stage, Advances}
use Rattle.radio_world.specs.Standing.{Stands, last_ended, last_entries, all_outcomes}

-- Both hosts went to where the world stands for the first time, and then the words were turned; behind that nothing happened but the end of
-- the push that went on, and all objects had their outcomes.
pub record RunsThrough {S T G H P Q : Type 0} (U : Upper S G) (V : Upper T H) (AnswersA : P → List G → P → Type 0) (AnswersB : Q → List H → Q → Type 0) (words : List Word) (old new : Stage S T G H P Q) : Type 0 where
  pub mid : Stage S T G H P Q
  pub last : Scene
  pub trace : Option (List ℕ)
  pub starts : Advances U V AnswersA AnswersB [] old mid
  pub turns : Advances U V AnswersA AnswersB words mid (stage last new.a new.b new.shelf new.inbox trace)
  pub stands : Stands U V last new.a new.b
  pub medium_stays : new.scene.medium ≡ last.medium
  pub outcomes_are : new.scene.pushes.outcomes ≡ all_outcomes (last_ended (U.outcome (new.a.upper [])) last.pushes)
  pub written : new.trace ≡ gained trace (capture_octets (last_entries (U.outcome (new.a.upper [])) last.pushes))
  pub each : AllByRecursion IsEntry (last_entries (U.outcome (new.a.upper [])) last.pushes)
