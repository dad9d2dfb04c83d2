-- Runs in which the inbox grants all that it is asked (this project's own).
use Rattle.std.specs.Prelude.{List, map, Option, Ok}
use Rattle.std.specs.List.{AllByRecursion}
use Rattle.scenario_laws.specs.bt_base.specs.Objects.{Contents}
use Rattle.scenario_laws.specs.push_script.specs.declared.scenario.Scenario.{Scenario}
use Rattle.scenario_laws.specs.capture.specs.Entries.{Entry}
use Rattle.scenario_laws.specs.world_model.specs.Machines.{News, Upper}
use Rattle.scenario_laws.specs.world_model.specs.Worlds.{Happening, Runs}
use Rattle.host_laws.specs.push_laws.specs.Premises.{AllGranted}
use Rattle.scenario_laws.specs.host_model.specs.Circumstances.{Circumstance, Size, Part, Stored, answers_in}
use Rattle.host_laws.specs.Calls.{HostsAsk}
use Rattle.host_laws.specs.Gifts.{gifts_of}
use Rattle.scenario_laws.specs.Captures.{client_of, server_of, BothHosts, beginning, Ran}
use Rattle.pair_laws.specs.InTurn.{PairsInTurn}

-- a machine whose ports give these answers in place of those, with each news
abbrev pub answered_by : {S G : Type 0} → (News → List G → List G) → Upper S G → Upper S G
answered_by to U = record U { hear = λ answers news. U.hear (to news answers) news }

-- an inbox grants whatever it is asked
abbrev pub granted : Circumstance → Circumstance
granted (Size answer) = Size answer
granted (Part answer) = Part answer
granted (Stored answer) = Stored (Ok tt)

abbrev pub granting : {S : Type 0} → Upper S Circumstance → Upper S Circumstance
granting U = answered_by (λ news answers. map granted answers) U

-- all that happened, where the inbox of host b granted all
abbrev pub HappenedGranted : Scenario → Option Contents → List Happening → BothHosts → Type 0
HappenedGranted scenario content happenings world = Runs (client_of scenario) (granting (server_of scenario content)) happenings (beginning scenario content) world

-- Both hosts' channels are pairs whose links go side by side, and all that host b is given of its inbox are grants.
pub record GrantedInTurn (asks : HostsAsk) (scenario : Scenario) (content : Option Contents) (capture : List Entry) (ran : Ran scenario content capture) : Type 0 where
  pub turns : PairsInTurn asks scenario content capture ran
  pub given : AllByRecursion (λ (gift : List Circumstance). AllGranted (answers_in gift)) (gifts_of turns.pairs.b.fed.so.lives.feeds)

-- So it is at each moment of each such run, wherever it broke off.
abbrev pub GrantedTakeTurns : Type 0
GrantedTakeTurns = (asks : HostsAsk) (scenario : Scenario) (content : Option Contents) (capture : List Entry) (ran : Ran scenario content capture)
    → HappenedGranted scenario content ran.happenings ran.world → GrantedInTurn asks scenario content capture ran
