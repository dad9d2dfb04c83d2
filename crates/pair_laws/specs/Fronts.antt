-- What happened to both hosts' channels up to a moment is what a pair went through up to it (this project's own).
use Rattle.std.specs.Prelude.{◌≡◌, List, ◌++◌}
use Rattle.std.specs.List.{flat_map}
use Rattle.channel_laws.specs.channel_model.specs.Policies.{Policy}
use Rattle.channel_laws.specs.Delivered.{IsRunBy}
use Rattle.channel_laws.specs.Frames.{AreUttered}
use Rattle.channel_laws.specs.Pairs.{Turn, new_pair, pair_of}
use Rattle.pair_laws.specs.Orders.{Joint, near_in, far_in, joints_from}

-- With the first of the turns that happened, and no more; and each host is the one to which its part of it happened.
pub record IsFrontOfTurns (near far : Policy) (turns : List Turn) (front : List Joint) : Type 0 where
  pub past : List Turn
  pub later : List Turn
  pub turns_are : turns ≡ past ++ later
  pub near_by : IsRunBy near (pair_of near far past).near.run (flat_map near_in front)
  pub far_by : IsRunBy far (pair_of near far past).far.run (flat_map far_in front)

-- So it is at each moment, where both hosts uttered what they are.
abbrev pub FrontsAreRun : Type 0
FrontsAreRun = (near far : Policy) (turns : List Turn) (front rest : List Joint) → joints_from (new_pair near far) turns ≡ front ++ rest
    → AreUttered near (flat_map near_in (front ++ rest)) → AreUttered far (flat_map far_in (front ++ rest)) → IsFrontOfTurns near far turns front
