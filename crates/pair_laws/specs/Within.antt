-- Each SDU that a host has for a channel is one that the peer takes (Core 5.1, Volume 3 Part A, 5.1).
use Rattle.std.specs.Prelude.{ℕ, ◌≡◌, ◌≤◌, List, length, Option, Some}
use Rattle.scenario_laws.specs.bt_base.specs.declared.settings.Settings.{Settings}
use Rattle.scenario_laws.specs.bt_base.specs.Objects.{Contents}
use Rattle.scenario_laws.specs.push_script.specs.declared.scenario.Scenario.{Scenario}
use Rattle.scenario_laws.specs.capture.specs.Entries.{Entry}
use Rattle.channel_laws.specs.channel_model.specs.Value.{Channels}
use Rattle.channel_laws.specs.channel_model.specs.Calls.{peer_mtu}
use Rattle.channel_laws.specs.Pipes.{AreCarried}
use Rattle.scenario_laws.specs.host_model.specs.Clients.{client_profile}
use Rattle.scenario_laws.specs.host_model.specs.Servers.{server_profile}
use Rattle.scenario_laws.specs.host_model.specs.Profiles.{Profile}
use Rattle.host_laws.specs.Calls.{Asks, Send, HostsAsk}
use Rattle.scenario_laws.specs.Captures.{Ran}
use Rattle.pair_laws.specs.OnLinks.{ArePairs}

-- an SDU that a profile asks to be sent has no more octets than the peer takes on its channel
abbrev pub SendsWithin : {P : Type 0} (A : Profile P) → Asks A → Type 0
SendsWithin {P} A asks = (v : Channels) (p : P) (own most : ℕ) (sdu : List ℕ) → asks.call v p ≡ Some (Send own sdu) → peer_mtu own v ≡ Some most → length sdu ≤ most

-- so it is of clients and of servers
pub record BothSendWithin (asks : HostsAsk) : Type 0 where
  pub clients : (settings : Settings) → SendsWithin (client_profile settings) (asks.clients settings)
  pub servers : (settings : Settings) (content : Option Contents) → SendsWithin (server_profile settings content) (asks.servers settings content)

-- and of what both hosts ask
pub record HostsSendWithin : Type 0 where
  pub asks : HostsAsk
  pub within : BothSendWithin asks

-- So the turns of each pair of a run are carried.
abbrev pub PairsAreCarried : Type 0
PairsAreCarried = (asks : HostsAsk) (scenario : Scenario) (content : Option Contents) (capture : List Entry) (ran : Ran scenario content capture) (pairs : ArePairs asks scenario content capture ran) → BothSendWithin asks → (number : ℕ) → AreCarried (client_profile scenario.settings).policy (server_profile scenario.settings content).policy (pairs.pairs number).turns
