-- What host b serves and its inbox gains in each run of a scenario over L2CAP, with all that is still asked of its ports (Object Push Profile
-- 1.2, 4.3).
use Rattle.std.specs.Prelude.{◌≡◌, List, ◌++◌, Some}
use Rattle.std.specs.List.{AllByRecursion}
use Rattle.pair_laws.specs.bt_base.specs.declared.settings.Transport.TheVariants.{L2cap}
use Rattle.pair_laws.specs.bt_base.specs.Objects.{Object}
use Rattle.pair_laws.specs.push_script.specs.declared.scenario.Scenario.{Scenario}
use Rattle.pair_laws.specs.push_terms.specs.declared.word.Side.TheVariants as sides
use Rattle.pair_laws.specs.capture.specs.Entries.{Entry}
use Rattle.pair_laws.specs.link_talk.specs.Captures.{objects_heard}
use Rattle.pair_laws.specs.push_laws.specs.Laws.{stored_in}
use Rattle.pair_laws.specs.host_laws.specs.Answered.{BeginsAtMost}
use Rattle.pair_laws.specs.host_laws.specs.Calls.{HostsAsk}
use Rattle.pair_laws.specs.scenario_laws.specs.Captures.{Ran}
use Rattle.pair_laws.specs.scenario_laws.specs.Gains.{holding, OrderlyServer}
use Rattle.pair_laws.specs.scenario_laws.specs.Parties.{party_of}
use Rattle.pair_laws.specs.InTurn.{PairsInTurn}
use Rattle.pair_laws.specs.OnLinks.{ArePairs}
use Rattle.request_laws.specs.BothFed.{most_octets, GrantsAll}

-- host b serves in order, and so its inbox gained exactly the objects that the packets spell which it heard, as the capture has them
pub record ServesAll (asks : HostsAsk) (scenario : Scenario) (before : List Object) (capture : List Entry) (ran : Ran scenario (holding before) capture) : Type 0 where
  pub orderly : OrderlyServer asks scenario.settings before capture ran.world.b.upper
  pub gained : stored_in ran.world.b.upper.profile.inbox.content ≡ Some (before ++ objects_heard (party_of scenario.settings sides.B) sides.B capture)

-- What is asked of the ports in a run: the shelf told no object that is longer than a server takes, and the inbox granted all calls. Whatever
-- else the shelf answers, nothing is asked of it.
pub record PortsAnswer (asks : HostsAsk) (scenario : Scenario) (before : List Object) (capture : List Entry) (ran : Ran scenario (holding before) capture) (pairs : ArePairs asks scenario (holding before) capture ran) : Type 0 where
  pub small : AllByRecursion (BeginsAtMost most_octets) pairs.a.fed.so.lives.feeds
  pub granted : AllByRecursion GrantsAll pairs.b.fed.so.lives.feeds

-- the channels of both hosts are pairs, and their links go side by side; and where the ports answer, host b serves in order and its inbox gained
-- what the capture spells
pub record ServesTogether (asks : HostsAsk) (scenario : Scenario) (before : List Object) (capture : List Entry) (ran : Ran scenario (holding before) capture) : Type 0 where
  pub turns : PairsInTurn asks scenario (holding before) capture ran
  pub serves : PortsAnswer asks scenario before capture ran turns.pairs → ServesAll asks scenario before capture ran

-- So it is at each moment of each run over L2CAP, wherever it broke off. Nothing more is asked of what both hosts ask of their channels.
pub record RunsServeTogether : Type 0 where
  pub asks : HostsAsk
  pub runs : (scenario : Scenario) (before : List Object) (capture : List Entry) (ran : Ran scenario (holding before) capture) → scenario.settings.transport ≡ L2cap
      → ServesTogether asks scenario before capture ran
