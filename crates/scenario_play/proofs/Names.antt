-- The objects of a world stay those that they are.
use Rattle.std.proofs.Common.{◌≡◌, List, [], ◌++◌}
use Rattle.push_terms.specs.declared.word.Word.{Word}
use Rattle.noting_laws.specs.world_model.specs.Machines.{Upper}
use Rattle.radio_world.specs.Scenes.{world_at, Stage, moment_of, Advances}
use Rattle.radio_world.proofs.Standing.{runs_of}
use Rattle.noting_laws.specs.scenario_laws.proofs.Outcomes.{runs_pushes}

pub names_stay : {S T G H P Q : Type 0} (U : Upper S G) (V : Upper T H) (RA : P → List G → P → Type 0) (RB : Q → List H → Q → Type 0) (words : List Word) (old new : Stage S T G H P Q) → Advances U V RA RB words old new → new.scene.pushes.names ≡ old.scene.pushes.names
names_stay U V RA RB words old new advances =
    let first = moment_of old (advances.used_a ++ []) (advances.used_b ++ []) in
    let last = moment_of new [] [] in
    (runs_pushes U V advances.happenings (world_at first) (world_at last) (runs_of U V advances.happenings first last (advances.plays [] []))).names_are
