-- The channels of the object are pipes of what the profiles of both hosts sent, on each link of each run over L2CAP (Core 5.1, Volume 3
-- Part A, 7.3 and 8.6; Object Push Profile 1.2, 4.3).
use Rattle.std.specs.Prelude.{ℕ, ◌≡◌, List, []}
use Rattle.std.specs.List.{AllByRecursion}
use Rattle.pair_laws.specs.bt_base.specs.declared.settings.Transport.TheVariants.{L2cap}
use Rattle.pair_laws.specs.bt_base.specs.Objects.{Object}
use Rattle.pair_laws.specs.push_script.specs.declared.scenario.Scenario.{Scenario}
use Rattle.pair_laws.specs.push_terms.specs.declared.word.Side.TheVariants as sides
use Rattle.pair_laws.specs.capture.specs.Entries.{Entry}
use Rattle.pair_laws.specs.channel_laws.specs.Pairs.{Turn, new_pair}
use Rattle.pair_laws.specs.push_laws.specs.Parties.{no_pipes}
use Rattle.pair_laws.specs.host_model.specs.Clients.{ClientProfile, client_profile}
use Rattle.pair_laws.specs.host_model.specs.Servers.{ServerProfile, server_profile}
use Rattle.pair_laws.specs.host_laws.specs.Calls.{HostsAsk}
use Rattle.pair_laws.specs.scenario_laws.specs.Captures.{Ran}
use Rattle.pair_laws.specs.scenario_laws.specs.Gains.{holding, serving, asked_by}
use Rattle.pair_laws.specs.OnLinks.{happened_on, ArePairs}
use Rattle.pair_laws.specs.Orders.{joints_from}
use Rattle.request_laws.specs.BothFed.{OfLink, AreLinked, over_stored}
use Rattle.request_laws.specs.Joined.{joints_of}
use Rattle.request_laws.specs.Paired.{PipedOn}
use Rattle.request_laws.specs.Twists.{Twist, new_both, Set, AllStayPiped, OpensNone}

-- whatever both went through in the order of these turns of their channels: at each moment what came to the one on the channel of the
-- object is a front of what the other's end of it took
abbrev pub StaysPiped : (set : Set) → List Turn → ClientProfile → ServerProfile → Type 0
StaysPiped set turns client server = (twists : List Twist) → joints_of set twists (new_both client server) ≡ joints_from (new_pair (client_profile set.settings).policy (server_profile set.settings set.content).policy) turns
    → AllStayPiped set twists (new_both client server) no_pipes

-- no push begins on a link
abbrev pub OpensOn : (set : Set) → OfLink set
OpensOn set number list_a list_b client last_a server last_b a b = AllByRecursion OpensNone a.weave

-- both hosts of a run over their links, and what is asked of each of these
abbrev pub LinkedWith : (asks : HostsAsk) (scenario : Scenario) (before : List Object) (capture : List Entry) (ran : Ran scenario (holding before) capture) → ArePairs asks scenario (holding before) capture ran → OfLink (over_stored asks scenario.settings before) → Type 0
LinkedWith asks scenario before capture ran pairs Q =
    AreLinked (over_stored asks scenario.settings before) Q
    (λ k. k) pairs.a.fed.so.lives.spans pairs.a.fed.so.lives.now pairs.a.fed.so.lives.feeds (client_profile scenario.settings).first ran.world.a.upper.profile
    pairs.b.fed.so.lives.spans pairs.b.fed.so.lives.now pairs.b.fed.so.lives.feeds (serving scenario.settings before).first ran.world.b.upper.profile pairs.a.fed.fed pairs.b.fed.fed

-- ---- the law

pub record ArePiped (asks : HostsAsk) (scenario : Scenario) (before : List Object) (capture : List Entry) (ran : Ran scenario (holding before) capture) (pairs : ArePairs asks scenario (holding before) capture ran) : Type 0 where
  -- along the turns of each pair, from hosts on that keep no endpoint yet, as both are where a link comes up
  pub piped : (number : ℕ) (client : ClientProfile) (server : ServerProfile) → client.endpoints ≡ [] → server.endpoints ≡ [] → StaysPiped (over_stored asks scenario.settings before) (pairs.pairs number).turns client server
  -- so on each link, where no push begins on it
  pub linked : (let set : Set = over_stored asks scenario.settings before in LinkedWith asks scenario before capture ran pairs (OpensOn set)
      → LinkedWith asks scenario before capture ran pairs (PipedOn set (happened_on (client_profile scenario.settings) (asks.clients scenario.settings) sides.A capture ran.world.a.upper pairs.a)
      (happened_on (serving scenario.settings before) (asked_by asks scenario.settings before) sides.B capture ran.world.b.upper pairs.b) pairs.pairs))

-- So it is at each moment of each run over L2CAP, wherever it broke off.
pub record ChannelsOfObjectsArePipes : Type 0 where
  pub asks : HostsAsk
  pub pipes : (scenario : Scenario) (before : List Object) (capture : List Entry) (ran : Ran scenario (holding before) capture) → scenario.settings.transport ≡ L2cap
      → (pairs : ArePairs asks scenario (holding before) capture ran) → ArePiped asks scenario before capture ran pairs
