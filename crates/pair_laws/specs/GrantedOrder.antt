-- Runs in which the inbox grants all that it is asked, and whose words lose, repeat and damage nothing (this project's own).
use Rattle.std.specs.Prelude.{List, Option}
use Rattle.std.specs.List.{AllByRecursion}
use Rattle.scenario_laws.specs.bt_base.specs.Objects.{Contents}
use Rattle.scenario_laws.specs.push_script.specs.declared.scenario.Scenario.{Scenario}
use Rattle.scenario_laws.specs.capture.specs.Entries.{Entry}
use Rattle.host_laws.specs.push_laws.specs.Premises.{AllGranted}
use Rattle.scenario_laws.specs.world_model.specs.Worlds.{all_words}
use Rattle.scenario_laws.specs.host_model.specs.Circumstances.{Circumstance, answers_in}
use Rattle.host_laws.specs.Calls.{HostsAsk}
use Rattle.host_laws.specs.Gifts.{gifts_of}
use Rattle.scenario_laws.specs.Captures.{Ran}
use Rattle.pair_laws.specs.Granted.{HappenedGranted}
use Rattle.pair_laws.specs.Keeping.{LosesNothing, PairsKeepOrder}

-- Both hosts' channels are pairs each way of which keeps its order, and all that host b is given of its inbox are grants.
pub record GrantedInOrder (asks : HostsAsk) (scenario : Scenario) (content : Option Contents) (capture : List Entry) (ran : Ran scenario content capture) : Type 0 where
  pub order : PairsKeepOrder asks scenario content capture ran
  pub given : AllByRecursion (λ (gift : List Circumstance). AllGranted (answers_in gift)) (gifts_of order.turns.pairs.b.fed.so.lives.feeds)

-- So it is at each moment of each such run, wherever it broke off.
abbrev pub GrantedKeepOrder : Type 0
GrantedKeepOrder = (asks : HostsAsk) (scenario : Scenario) (content : Option Contents) (capture : List Entry) (ran : Ran scenario content capture)
    → HappenedGranted scenario content ran.happenings ran.world → LosesNothing (all_words ran.happenings) → GrantedInOrder asks scenario content capture ran
