-- Each run of turns is the run of some world, for every two machines and whatever their ports answer.
use Rattle.std.specs.Prelude.{ℕ, ◌≡◌, ◌≤◌, ◌+◌, true, List, [], ◌∷◌}
use Rattle.std.specs.List.{AllByRecursion}
use Rattle.station_laws.specs.push_terms.specs.Words.{IsWord}
use Rattle.station_laws.specs.world_model.specs.Machines.{Upper}
use Rattle.station_laws.specs.world_model.specs.Turns.{Step, Rise, Pair, IsCalmPair, Moves, words_of, first_pair}
use Rattle.station_laws.specs.world_model.specs.Worlds.{World, Happening, Runs, IsAtRest, all_words, first_world}
use Rattle.station_laws.specs.turn_laws.specs.Premises.{SaysFrames}
use Rattle.station_laws.specs.turn_laws.specs.WorldLaws.{Reflects}
use Rattle.station_laws.specs.WorldLaws.{AreSizes}

-- Turns, one after the other, in which both hosts say all that they have to say. Where a host stops short, how many PDUs it was asked
-- for and how many of these moved are any two numbers in the world of turns; in a world they are as far apart as its buffers are many.
abbrev pub PassesWhole : {S T G H : Type 0} → Upper S G → Upper T H → List Step → Pair S T → Pair S T → Type 0
PassesWhole U V [] old new = new ≡ old
PassesWhole {S} {T} U V (step ∷ steps) old new = (mid : Pair S T) × Moves U V step old mid × (mid.a.whole ≡ true) × (mid.b.whole ≡ true) × PassesWhole U V steps mid new

-- how many links come up
abbrev pub rises_in : Step → ℕ
rises_in Rise = 1
rises_in step = 0

abbrev pub rises : List Step → ℕ
rises [] = 0
rises (step ∷ steps) = rises_in step + rises steps

-- a run of the world that a run of turns is; it ends at rest where the next word may be turned
pub record Played {S T G H : Type 0} (U : Upper S G) (V : Upper T H) (size count : ℕ) (names : List (List ℕ)) (steps : List Step) (pair : Pair S T) : Type 0 where
  pub happenings : List Happening
  pub world : World S T
  pub runs : Runs U V happenings (first_world U V size count names) world
  pub words : all_words happenings ≡ words_of steps
  pub reflects : Reflects world pair
  pub rests : IsCalmPair U V pair → IsAtRest U V world

-- There is a handle for each link, and the words are those that a script can spell.
abbrev pub TurnsArePlayed : {S T G H : Type 0} → Upper S G → Upper T H → Type 0
TurnsArePlayed {S} {T} U V =
    (size count : ℕ) (names : List (List ℕ)) (steps : List Step) (pair : Pair S T) → AreSizes size count → SaysFrames U → SaysFrames V
    → AllByRecursion IsWord (words_of steps) → rises steps ≤ 0x0EFF → PassesWhole U V steps (first_pair U V size names) pair → Played U V size count names steps pair
