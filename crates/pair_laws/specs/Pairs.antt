-- What happened to the channels of two hosts on a link is what a pair went through (this project's own).
use Rattle.std.specs.Prelude.{◌≡◌, List, []}
use Rattle.std.specs.List.{flat_map}
use Rattle.scenario_laws.specs.capture.specs.Histories.{EachAfter}
use Rattle.channel_laws.specs.channel_model.specs.Policies.{Policy}
use Rattle.channel_laws.specs.Runs.{Occurrence, run_of}
use Rattle.channel_laws.specs.Pairs.{Turn, new_pair, pair_of}
use Rattle.channel_laws.specs.Ends.{AreFair}
use Rattle.channel_laws.specs.Belonging.{AreRead}
use Rattle.channel_laws.specs.Pipes.{IsTakeable, AreCarried}
use Rattle.pair_laws.specs.Orders.{near_in, far_in, joints_from}
use Rattle.pair_laws.specs.Changes.{AreChanged, DamageIsSeen}
use Rattle.pair_laws.specs.Seen.{AreAddressed}

-- each SDU that a host has for an open channel is one that its peer takes
abbrev pub TakesAll : Policy → List Occurrence → Type 0
TakesAll policy list = EachAfter (λ past one. IsTakeable one (run_of policy past).value) [] list

-- What happened to the channels of one host and to those of the other is what a pair went through: in some order each of them did what
-- it did alone, gave what it gave, and had what came of what the other gave before. Each of them says what it is, what is under way is
-- read as it was given, and damage is what the air does; each SDU goes to the endpoint that it is for, and the turns are carried
-- where the SDUs are within what the other takes and damage is seen.
pub record PairOnLink (near far : Policy) (one other : List Occurrence) : Type 0 where
  pub turns : List Turn
  pub near_is : (pair_of near far turns).near.run ≡ run_of near one
  pub far_is : (pair_of near far turns).far.run ≡ run_of far other
  -- both lists are what happened at its ends, in the order of the turns
  pub near_list : flat_map near_in (joints_from (new_pair near far) turns) ≡ one
  pub far_list : flat_map far_in (joints_from (new_pair near far) turns) ≡ other
  pub fair : AreFair near far turns
  pub read : AreRead near far turns
  pub changes : AreChanged near far turns
  pub addressed : AreAddressed near far turns
  pub carried : TakesAll near one → TakesAll far other → DamageIsSeen near far turns → AreCarried near far turns
