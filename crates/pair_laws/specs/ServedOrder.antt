-- Runs in which the shelf of host a answers in octets and tells how long its objects are, and whose words lose, repeat and damage nothing (this project's
-- own).
use Rattle.std.specs.Prelude.{List, Option}
use Rattle.std.specs.List.{AllByRecursion}
use Rattle.scenario_laws.specs.bt_base.specs.Objects.{Object, Contents}
use Rattle.scenario_laws.specs.push_script.specs.declared.scenario.Scenario.{Scenario}
use Rattle.scenario_laws.specs.capture.specs.Entries.{Entry}
use Rattle.scenario_laws.specs.world_model.specs.Worlds.{all_words}
use Rattle.host_laws.specs.push_laws.specs.Premises.{AllGranted}
use Rattle.scenario_laws.specs.host_model.specs.Circumstances.{Circumstance, answers_in}
use Rattle.host_laws.specs.Calls.{HostsAsk}
use Rattle.host_laws.specs.Gifts.{gifts_of}
use Rattle.host_laws.specs.ShelfAnswers.{AnswersOf}
use Rattle.scenario_laws.specs.Captures.{Ran}
use Rattle.pair_laws.specs.Keeping.{LosesNothing, PairsKeepOrder}
use Rattle.pair_laws.specs.Served.{HappenedHeld, HappenedServed}

-- Both hosts' channels are pairs each way of which keeps its order; what host a is given of its shelf are octets, and each length that it is told is that
-- of an object there.
pub record HeldInOrder (asks : HostsAsk) (scenario : Scenario) (shelf : Option (List Object)) (content : Option Contents) (capture : List Entry) (ran : Ran scenario content capture) : Type 0 where
  pub order : PairsKeepOrder asks scenario content capture ran
  pub told : AllByRecursion (AnswersOf shelf) order.turns.pairs.a.fed.so.lives.feeds

-- So it is at each moment of each such run, wherever it broke off.
abbrev pub HeldKeepOrder : Type 0
HeldKeepOrder = (asks : HostsAsk) (scenario : Scenario) (shelf : Option (List Object)) (content : Option Contents) (capture : List Entry) (ran : Ran scenario content capture)
    → HappenedHeld scenario shelf content ran.happenings ran.world → LosesNothing (all_words ran.happenings) → HeldInOrder asks scenario shelf content capture ran

-- and all that host b is given of its inbox are grants
pub record ServedInOrder (asks : HostsAsk) (scenario : Scenario) (shelf : Option (List Object)) (content : Option Contents) (capture : List Entry) (ran : Ran scenario content capture) : Type 0 where
  pub order : PairsKeepOrder asks scenario content capture ran
  pub told : AllByRecursion (AnswersOf shelf) order.turns.pairs.a.fed.so.lives.feeds
  pub given : AllByRecursion (λ (gift : List Circumstance). AllGranted (answers_in gift)) (gifts_of order.turns.pairs.b.fed.so.lives.feeds)

abbrev pub ServedKeepOrder : Type 0
ServedKeepOrder = (asks : HostsAsk) (scenario : Scenario) (shelf : Option (List Object)) (content : Option Contents) (capture : List Entry) (ran : Ran scenario content capture)
    → HappenedServed scenario shelf content ran.happenings ran.world → LosesNothing (all_words ran.happenings) → ServedInOrder asks scenario shelf content capture ran
