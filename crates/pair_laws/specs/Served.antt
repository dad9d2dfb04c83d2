-- Runs in which the shelf of host a answers in octets and tells how long its objects are, and the inbox of host b grants all that it is asked (this project's own).
use Rattle.std.specs.Prelude.{List, Option}
use Rattle.std.specs.List.{AllByRecursion}
use Rattle.scenario_laws.specs.bt_base.specs.Objects.{Object, Contents}
use Rattle.scenario_laws.specs.push_script.specs.declared.scenario.Scenario.{Scenario}
use Rattle.scenario_laws.specs.capture.specs.Entries.{Entry}
use Rattle.scenario_laws.specs.world_model.specs.Machines.{Upper}
use Rattle.scenario_laws.specs.world_model.specs.Worlds.{Happening, Runs}
use Rattle.host_laws.specs.push_laws.specs.Premises.{AllGranted}
use Rattle.scenario_laws.specs.host_model.specs.Circumstances.{Circumstance, answers_in}
use Rattle.host_laws.specs.shelf_model.specs.Held.{held_by}
use Rattle.host_laws.specs.Calls.{HostsAsk}
use Rattle.host_laws.specs.Gifts.{gifts_of}
use Rattle.host_laws.specs.ShelfAnswers.{AnswersOf}
use Rattle.scenario_laws.specs.Captures.{client_of, server_of, BothHosts, beginning, Ran}
use Rattle.pair_laws.specs.Granted.{answered_by, granting}
use Rattle.pair_laws.specs.InTurn.{PairsInTurn}

-- a machine whose shelf answers in octets and holds these objects, where it tells what it holds
abbrev pub holding_on : {S : Type 0} → Option (List Object) → Upper S Circumstance → Upper S Circumstance
holding_on shelf U = answered_by (held_by shelf) U

-- all that happened, where the shelf of host a holds these
abbrev pub HappenedHeld : Scenario → (shelf : Option (List Object)) → Option Contents → List Happening → BothHosts → Type 0
HappenedHeld scenario shelf content happenings world = Runs (holding_on shelf (client_of scenario)) (server_of scenario content) happenings (beginning scenario content) world

-- and where besides the inbox of host b granted all
abbrev pub HappenedServed : Scenario → (shelf : Option (List Object)) → Option Contents → List Happening → BothHosts → Type 0
HappenedServed scenario shelf content happenings world = Runs (holding_on shelf (client_of scenario)) (granting (server_of scenario content)) happenings (beginning scenario content) world

-- ---- the laws

-- Both hosts' channels are pairs whose links go side by side; what host a is given of its shelf are octets of the objects there, and each length that it is
-- told is that of one.
pub record HeldInTurn (asks : HostsAsk) (scenario : Scenario) (shelf : Option (List Object)) (content : Option Contents) (capture : List Entry) (ran : Ran scenario content capture) : Type 0 where
  pub turns : PairsInTurn asks scenario content capture ran
  pub told : AllByRecursion (AnswersOf shelf) turns.pairs.a.fed.so.lives.feeds

-- So it is at each moment of each such run, wherever it broke off.
abbrev pub HeldTakeTurns : Type 0
HeldTakeTurns = (asks : HostsAsk) (scenario : Scenario) (shelf : Option (List Object)) (content : Option Contents) (capture : List Entry) (ran : Ran scenario content capture)
    → HappenedHeld scenario shelf content ran.happenings ran.world → HeldInTurn asks scenario shelf content capture ran

-- and all that host b is given of its inbox are grants
pub record ServedInTurn (asks : HostsAsk) (scenario : Scenario) (shelf : Option (List Object)) (content : Option Contents) (capture : List Entry) (ran : Ran scenario content capture) : Type 0 where
  pub turns : PairsInTurn asks scenario content capture ran
  pub told : AllByRecursion (AnswersOf shelf) turns.pairs.a.fed.so.lives.feeds
  pub given : AllByRecursion (λ (gift : List Circumstance). AllGranted (answers_in gift)) (gifts_of turns.pairs.b.fed.so.lives.feeds)

abbrev pub ServedTakeTurns : Type 0
ServedTakeTurns = (asks : HostsAsk) (scenario : Scenario) (shelf : Option (List Object)) (content : Option Contents) (capture : List Entry) (ran : Ran scenario content capture)
    → HappenedServed scenario shelf content ran.happenings ran.world → ServedInTurn asks scenario shelf content capture ran
