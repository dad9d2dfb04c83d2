-- All that the own talk of either host brings on a link is handed up (Core 5.1, Volume 3 Part A, 7.3 and 8.6).
use Rattle.std.specs.Prelude.{List, Option}
use Rattle.std.specs.List.{AllByRecursion, flat_map}
use Rattle.scenario_laws.specs.bt_base.specs.Objects.{Contents}
use Rattle.scenario_laws.specs.push_script.specs.declared.scenario.Scenario.{Scenario}
use Rattle.scenario_laws.specs.capture.specs.Entries.{Entry}
use Rattle.scenario_laws.specs.host_model.specs.Clients.{client_profile}
use Rattle.scenario_laws.specs.host_model.specs.Servers.{server_profile}
use Rattle.host_laws.specs.Calls.{HostsAsk}
use Rattle.host_laws.specs.InOrder.{IsWhole}
use Rattle.host_laws.specs.Lives.{on_links}
use Rattle.host_laws.specs.OverLinks.{talk_marks}
use Rattle.scenario_laws.specs.Captures.{Ran}
use Rattle.pair_laws.specs.OnLinks.{ArePairs}
use Rattle.pair_laws.specs.Within.{BothSendWithin}

-- on each link of both hosts
pub record BothWhole (asks : HostsAsk) (scenario : Scenario) (content : Option Contents) (capture : List Entry) (ran : Ran scenario content capture) (pairs : ArePairs asks scenario content capture ran) : Type 0 where
  pub a : AllByRecursion (IsWhole (client_profile scenario.settings).policy)
      (on_links (client_profile scenario.settings) (asks.clients scenario.settings) (flat_map talk_marks pairs.a.came.talk) ran.world.a.upper pairs.a.fed.so.lives)
  pub b : AllByRecursion (IsWhole (server_profile scenario.settings content).policy)
      (on_links (server_profile scenario.settings content) (asks.servers scenario.settings content) (flat_map talk_marks pairs.b.came.talk) ran.world.b.upper pairs.b.fed.so.lives)

-- So it is in each run whose hosts' channels are pairs, also of a channel that its machine closed.
abbrev pub PairsAreWhole : Type 0
PairsAreWhole = (asks : HostsAsk) (scenario : Scenario) (content : Option Contents) (capture : List Entry) (ran : Ran scenario content capture) (pairs : ArePairs asks scenario content capture ran) → BothSendWithin asks → BothWhole asks scenario content capture ran pairs
