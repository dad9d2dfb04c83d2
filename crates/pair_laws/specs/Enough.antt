-- Runs in which the inbox does not lack memory, though calls of it may fail (this project's own).
use Rattle.std.specs.Prelude.{List, map, Option, Ok, Err}
use Rattle.std.specs.List.{AllByRecursion}
use Rattle.scenario_laws.specs.bt_base.specs.Objects.{Object, Contents}
use Rattle.scenario_laws.specs.bt_base.specs.declared.ports.PortFault.TheVariants.{Failed, NoMemory}
use Rattle.scenario_laws.specs.obex_session.specs.InboxCalls.{Answer}
use Rattle.scenario_laws.specs.push_script.specs.declared.scenario.Scenario.{Scenario}
use Rattle.scenario_laws.specs.capture.specs.Entries.{Entry}
use Rattle.scenario_laws.specs.world_model.specs.Machines.{Upper}
use Rattle.scenario_laws.specs.world_model.specs.Worlds.{Happening, Runs, all_words}
use Rattle.host_laws.specs.push_laws.specs.Premises.{NoneShort}
use Rattle.scenario_laws.specs.host_model.specs.Circumstances.{Circumstance, Size, Part, Stored, answers_in}
use Rattle.host_laws.specs.Calls.{HostsAsk}
use Rattle.host_laws.specs.Gifts.{gifts_of}
use Rattle.host_laws.specs.ShelfAnswers.{AnswersOf}
use Rattle.scenario_laws.specs.Captures.{client_of, server_of, BothHosts, beginning, Ran}
use Rattle.pair_laws.specs.Granted.{answered_by}
use Rattle.pair_laws.specs.Keeping.{LosesNothing, PairsKeepOrder}
use Rattle.pair_laws.specs.Served.{holding_on}

-- a call that lacked memory counts as one that failed
abbrev pub with_memory : Answer → Answer
with_memory (Ok done) = Ok done
with_memory (Err Failed) = Err Failed
with_memory (Err NoMemory) = Err Failed

abbrev pub remembered : Circumstance → Circumstance
remembered (Size answer) = Size answer
remembered (Part answer) = Part answer
remembered (Stored answer) = Stored (with_memory answer)

abbrev pub remembering : {S : Type 0} → Upper S Circumstance → Upper S Circumstance
remembering U = answered_by (λ news answers. map remembered answers) U

-- all that happened, where the shelf of host a holds these and the inbox of host b does not lack memory
abbrev pub HappenedEnough : Scenario → (shelf : Option (List Object)) → Option Contents → List Happening → BothHosts → Type 0
HappenedEnough scenario shelf content happenings world = Runs (holding_on shelf (client_of scenario)) (remembering (server_of scenario content)) happenings (beginning scenario content) world

-- Both hosts' channels are pairs each way of which keeps its order; what host a is given of its shelf is so (`AnswersOf`), and nothing that host b is
-- given of its inbox is want of memory.
pub record EnoughInOrder (asks : HostsAsk) (scenario : Scenario) (shelf : Option (List Object)) (content : Option Contents) (capture : List Entry) (ran : Ran scenario content capture) : Type 0 where
  pub order : PairsKeepOrder asks scenario content capture ran
  pub told : AllByRecursion (AnswersOf shelf) order.turns.pairs.a.fed.so.lives.feeds
  pub enough : AllByRecursion (λ (gift : List Circumstance). NoneShort (answers_in gift)) (gifts_of order.turns.pairs.b.fed.so.lives.feeds)

-- So it is at each moment of each such run whose words lose, repeat and damage nothing, wherever it broke off.
abbrev pub EnoughKeepOrder : Type 0
EnoughKeepOrder = (asks : HostsAsk) (scenario : Scenario) (shelf : Option (List Object)) (content : Option Contents) (capture : List Entry) (ran : Ran scenario content capture)
    → HappenedEnough scenario shelf content ran.happenings ran.world → LosesNothing (all_words ran.happenings) → EnoughInOrder asks scenario shelf content capture ran
