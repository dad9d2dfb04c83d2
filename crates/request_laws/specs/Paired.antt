-- No request is ignored in the runs of a scenario over L2CAP, along the pairs of both hosts' channels (Object Push Profile 1.2, 4.3).
use Rattle.std.specs.Prelude.{ℕ, ◌≡◌, List}
use Rattle.std.specs.List.{AllByRecursion}
use Rattle.pair_laws.specs.bt_base.specs.declared.settings.Transport.TheVariants.{L2cap}
use Rattle.pair_laws.specs.bt_base.specs.Objects.{Object}
use Rattle.pair_laws.specs.push_script.specs.declared.scenario.Scenario.{Scenario}
use Rattle.pair_laws.specs.push_terms.specs.declared.word.Side.TheVariants as sides
use Rattle.pair_laws.specs.capture.specs.Entries.{Entry}
use Rattle.pair_laws.specs.channel_laws.specs.Pairs.{new_pair}
use Rattle.pair_laws.specs.channel_laws.specs.Runs as channels
use Rattle.pair_laws.specs.push_laws.specs.Parties.{no_pipes}
use Rattle.pair_laws.specs.host_model.specs.Clients.{ClientProfile, client_profile}
use Rattle.pair_laws.specs.host_model.specs.Servers.{ServerProfile, server_profile}
use Rattle.pair_laws.specs.host_laws.specs.Answered.{BeginsAtMost}
use Rattle.pair_laws.specs.host_laws.specs.Calls.{HostsAsk}
use Rattle.pair_laws.specs.host_laws.specs.InOrder.{AsksNoChannels}
use Rattle.pair_laws.specs.host_laws.specs.Woven.{Strand}
use Rattle.pair_laws.specs.scenario_laws.specs.Captures.{Ran}
use Rattle.pair_laws.specs.scenario_laws.specs.Gains.{holding, serving, asked_by, OrderlyServer}
use Rattle.pair_laws.specs.OnLinks.{happened_on, ArePairs}
use Rattle.pair_laws.specs.Orders.{joints_from}
use Rattle.pair_laws.specs.Pairs.{PairOnLink}
use Rattle.pair_laws.specs.Within.{BothSendWithin}
use Rattle.request_laws.specs.BothFed.{OfLink, AreLinked, most_octets, GrantsAll, over_stored}
use Rattle.request_laws.specs.Joined.{joints_of}
use Rattle.request_laws.specs.Twists.{Twist, new_both, Set, AllStayPiped, OpensNone}

-- ---- along a pair

-- on each link there is a pair of what happened to both hosts' channels
abbrev pub PairsOf : (set : Set) (near far : ℕ → List channels.Occurrence) → Type 0
PairsOf set near far = (number : ℕ) → PairOnLink (client_profile set.settings).policy (server_profile set.settings set.content).policy (near number) (far number)

-- no push begins on the link; and whatever both went through in the order of the pair's turns, their channels of the object were pipes
pub record IsPiped (set : Set) (near far : ℕ → List channels.Occurrence) (pairs : PairsOf set near far) (number : ℕ) (weave : List Strand) (client : ClientProfile) (server : ServerProfile) : Type 0 where
  pub opens : AllByRecursion OpensNone weave
  pub piped : (twists : List Twist) → joints_of set twists (new_both client server) ≡ joints_from (new_pair (client_profile set.settings).policy (server_profile set.settings set.content).policy) (pairs number).turns
      → AllStayPiped set twists (new_both client server) no_pipes

abbrev pub PipedOn : (set : Set) (near far : ℕ → List channels.Occurrence) → PairsOf set near far → OfLink set
PipedOn set near far pairs number list_a list_b client last_a server last_b a b = IsPiped set near far pairs number a.weave client server

-- ---- the law

-- Links come up as the client wants them, the server is never two turns ahead, and on each of them the channels of the object were pipes.
abbrev pub PairsLinked : (asks : HostsAsk) (scenario : Scenario) (before : List Object) (capture : List Entry) (ran : Ran scenario (holding before) capture) → ArePairs asks scenario (holding before) capture ran → Type 0
PairsLinked asks scenario before capture ran pairs =
    (let set : Set = over_stored asks scenario.settings before in
    AreLinked set (PipedOn set (happened_on (client_profile scenario.settings) (asks.clients scenario.settings) sides.A capture ran.world.a.upper pairs.a) (happened_on (serving scenario.settings before) (asked_by asks scenario.settings before) sides.B capture ran.world.b.upper pairs.b) pairs.pairs)
    (λ k. k) pairs.a.fed.so.lives.spans pairs.a.fed.so.lives.now pairs.a.fed.so.lives.feeds (client_profile scenario.settings).first ran.world.a.upper.profile
    pairs.b.fed.so.lives.spans pairs.b.fed.so.lives.now pairs.b.fed.so.lives.feeds (serving scenario.settings before).first ran.world.b.upper.profile pairs.a.fed.fed pairs.b.fed.fed)

-- What is asked of both hosts of a run whose channels are pairs: links come up as the client wants them, the server is never two turns ahead, on each
-- of them the channels of the object were pipes, the shelf told no object that is too long, and the inbox granted all calls.
pub record PairsServe (asks : HostsAsk) (scenario : Scenario) (before : List Object) (capture : List Entry) (ran : Ran scenario (holding before) capture) (pairs : ArePairs asks scenario (holding before) capture ran) : Type 0 where
  pub linked : PairsLinked asks scenario before capture ran pairs
  pub small : AllByRecursion (BeginsAtMost most_octets) pairs.a.fed.so.lives.feeds
  pub granted : AllByRecursion GrantsAll pairs.b.fed.so.lives.feeds

-- Then host b serves in order: no request is ignored.
abbrev pub PairedServersServe : Type 0
PairedServersServe = (asks : HostsAsk) (scenario : Scenario) (before : List Object) (capture : List Entry) (ran : Ran scenario (holding before) capture) → scenario.settings.transport ≡ L2cap
    → (pairs : ArePairs asks scenario (holding before) capture ran) → PairsServe asks scenario before capture ran pairs → BothSendWithin asks
    → AsksNoChannels (serving scenario.settings before) (asked_by asks scenario.settings before)
    → OrderlyServer asks scenario.settings before capture ran.world.b.upper
