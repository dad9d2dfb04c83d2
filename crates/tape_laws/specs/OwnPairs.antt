-- A server that keeps what its inbox is to answer, and host a's client: their channels are pairs (this project's own).
use Rattle.std.specs.Prelude.{◌≡◌, List, ◌++◌, Option}
use Rattle.std.specs.List.{AllByRecursion}
use Rattle.inbox_laws.specs.bt_base.specs.Objects.{Object, Contents}
use Rattle.inbox_laws.specs.obex_session.specs.InboxCalls.{Answer}
use Rattle.inbox_laws.specs.push_script.specs.declared.scenario.Scenario.{Scenario}
use Rattle.inbox_laws.specs.capture.specs.Entries.{Entry}
use Rattle.inbox_laws.specs.world_model.specs.Machines.{Upper}
use Rattle.inbox_laws.specs.world_model.specs.Worlds.{Happening, Runs, all_entries, all_words, first_world}
use Rattle.inbox_laws.specs.air_laws.specs.AirLaws.{IsLastEnd}
use Rattle.inbox_laws.specs.alike_laws.specs.Twins.{IsOther, WorldsAlike}
use Rattle.inbox_laws.specs.host_model.specs.Circumstances.{Circumstance}
use Rattle.inbox_laws.specs.host_model.specs.Clients.{ClientProfile}
use Rattle.inbox_laws.specs.host_model.specs.Hosts.{Host, first_host}
use Rattle.inbox_laws.specs.host_model.specs.Machines.{upper}
use Rattle.inbox_laws.specs.host_model.specs.Servers.{ServerProfile, server_profile}
use Rattle.inbox_laws.specs.host_laws.specs.Calls.{HostsAsk}
use Rattle.inbox_laws.specs.host_laws.specs.ShelfAnswers.{AnswersOf}
use Rattle.inbox_laws.specs.scenario_laws.specs.Captures.{client_of, BothHosts, Ran}
use Rattle.inbox_laws.specs.pair_laws.specs.Keeping.{LosesNothing, PairsKeepOrder}
use Rattle.inbox_laws.specs.pair_laws.specs.Served.{holding_on}
use Rattle.tape_laws.specs.Once.{SpendsOnce}
use Rattle.tape_laws.specs.Own.{own_server}

abbrev pub own_of : Scenario → Option Contents → List Answer → Upper (Host ServerProfile) Circumstance
own_of scenario content answers = upper (own_server scenario.settings content answers)

abbrev pub own_beginning : Scenario → Option Contents → List Answer → BothHosts
own_beginning scenario content answers = first_world (client_of scenario) (own_of scenario content answers) scenario.acl_length scenario.acl_count scenario.names

-- The scenario ran with such a server where the shelf of host a holds these, wherever the run broke off, and this is its capture.
pub record RanOwn (scenario : Scenario) (shelf : Option (List Object)) (content : Option Contents) (answers : List Answer) (capture : List Entry) : Type 0 where
  pub happenings : List Happening
  pub world : BothHosts
  pub happened : Runs (holding_on shelf (client_of scenario)) (own_of scenario content answers) happenings (own_beginning scenario content answers) world
  pub ends : List Entry
  pub last : IsLastEnd world.pushes ends
  pub capture_is : capture ≡ all_entries happenings ++ ends

-- the hosts of the one run and of the other are the same, or both servers have heard nothing yet
abbrev pub IsThereToo : Scenario → Option Contents → List Answer → (own plain : BothHosts) → Type 0
IsThereToo scenario content answers own plain =
    WorldsAlike (λ (s t : Host ClientProfile). t ≡ s) (IsOther (first_host (own_server scenario.settings content answers)) (first_host (server_profile scenario.settings content))) own plain

-- So it ran also where the server is given its answers: their channels are pairs each way of which keeps its order, what host a is given of its shelf
-- is so, and host b is given no more faults than there are in those answers.
pub record OwnInOrder (asks : HostsAsk) (scenario : Scenario) (shelf : Option (List Object)) (content : Option Contents) (answers : List Answer) (capture : List Entry) (own : RanOwn scenario shelf content answers capture) : Type 0 where
  pub ran : Ran scenario content capture
  pub happenings_are : ran.happenings ≡ own.happenings
  pub there : IsThereToo scenario content answers own.world ran.world
  pub order : PairsKeepOrder asks scenario content capture ran
  pub told : AllByRecursion (AnswersOf shelf) order.turns.pairs.a.fed.so.lives.feeds
  pub spends : SpendsOnce scenario.settings content answers order.turns.pairs.b.fed.so.lives.feeds

-- ---- the law

-- So it is at each moment of each such run whose words lose, repeat and damage nothing.
abbrev pub OwnServersKeepOrder : Type 0
OwnServersKeepOrder = (asks : HostsAsk) (scenario : Scenario) (shelf : Option (List Object)) (content : Option Contents) (answers : List Answer) (capture : List Entry) (own : RanOwn scenario shelf content answers capture)
    → LosesNothing (all_words own.happenings) → OwnInOrder asks scenario shelf content answers capture own
