-- The channels of the multiplexers are pipes of what both hosts' profiles sent, on each link of each run that keeps its order (Core 5.1,
-- Volume 3 Part A, 3.1; RFCOMM 1.2, 2.1).
use Rattle.std.specs.Prelude.{ℕ, ◌≡◌, List, []}
use Rattle.pair_laws.specs.bt_base.specs.declared.settings.Transport.TheVariants.{Rfcomm}
use Rattle.pair_laws.specs.bt_base.specs.Objects.{Object}
use Rattle.pair_laws.specs.push_script.specs.declared.scenario.Scenario.{Scenario}
use Rattle.pair_laws.specs.capture.specs.Entries.{Entry}
use Rattle.pair_laws.specs.channel_laws.specs.Pairs.{Turn, new_pair}
use Rattle.pair_laws.specs.push_model.specs.Server.{rfcomm_psm}
use Rattle.pair_laws.specs.host_model.specs.Clients.{ClientProfile, client_profile}
use Rattle.pair_laws.specs.host_model.specs.Servers.{ServerProfile, server_profile}
use Rattle.pair_laws.specs.host_laws.specs.Calls.{HostsAsk}
use Rattle.pair_laws.specs.scenario_laws.specs.Captures.{Ran}
use Rattle.pair_laws.specs.scenario_laws.specs.Gains.{holding}
use Rattle.pair_laws.specs.Keeping.{PairsKeepOrder}
use Rattle.pair_laws.specs.Orders.{joints_from}
use Rattle.request_laws.specs.BothFed.{over_stored}
use Rattle.request_laws.specs.Joined.{joints_of}
use Rattle.request_laws.specs.Streams.{no_streams, AllStayStreams}
use Rattle.request_laws.specs.Twists.{Twist, Set, new_both}

-- whatever both went through in the order of these turns of their channels: at each moment what came to the one on the channels of the PSM is a
-- front of what the other's end of it took
abbrev pub StaysOn : (carrier : ℕ) (set : Set) → List Turn → ClientProfile → ServerProfile → Type 0
StaysOn carrier set turns client server = (twists : List Twist) → joints_of set twists (new_both client server) ≡ joints_from (new_pair (client_profile set.settings).policy (server_profile set.settings set.content).policy) turns
    → AllStayStreams carrier set twists (new_both client server) no_streams

-- Over RFCOMM so it is along the turns of each pair, from hosts on that keep no endpoint yet, as both are where a link comes up: at each moment of
-- each run, wherever it broke off.
pub record MultiplexersArePiped : Type 0 where
  pub asks : HostsAsk
  pub pipes : (scenario : Scenario) (before : List Object) (capture : List Entry) (ran : Ran scenario (holding before) capture) (order : PairsKeepOrder asks scenario (holding before) capture ran) → scenario.settings.transport ≡ Rfcomm
      → (number : ℕ) (client : ClientProfile) (server : ServerProfile) → client.endpoints ≡ [] → server.endpoints ≡ []
      → StaysOn rfcomm_psm (over_stored asks scenario.settings before) (order.turns.pairs.pairs number).turns client server
