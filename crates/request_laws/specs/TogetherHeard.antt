-- What host b serves and its inbox gains in each run of a scenario over RFCOMM, where nothing is asked of what both hosts hear (Object Push
-- Profile 1.2, 4.3; RFCOMM 1.2, 2.1 and 5.1; Core 5.1, Volume 3 Part B, 4.7).
use Rattle.std.specs.Prelude.{◌≡◌, List, ◌++◌, Some, None}
use Rattle.std.specs.List.{AllByRecursion}
use Rattle.pair_laws.specs.bt_base.specs.declared.settings.Transport.TheVariants.{Rfcomm}
use Rattle.pair_laws.specs.bt_base.specs.Objects.{Object}
use Rattle.pair_laws.specs.bt_base.specs.Octets.{IsOctets}
use Rattle.pair_laws.specs.push_script.specs.declared.scenario.Scenario.{Scenario}
use Rattle.pair_laws.specs.push_terms.specs.declared.word.Side.TheVariants as sides
use Rattle.pair_laws.specs.capture.specs.Entries.{Entry}
use Rattle.pair_laws.specs.link_talk.specs.Captures.{objects_heard}
use Rattle.pair_laws.specs.push_laws.specs.Laws.{stored_in}
use Rattle.pair_laws.specs.world_model.specs.Worlds.{all_words}
use Rattle.pair_laws.specs.host_model.specs.Circumstances.{parts_in}
use Rattle.pair_laws.specs.shelf_model.specs.Held.{longest_octets, IsHeld}
use Rattle.pair_laws.specs.host_laws.specs.Answered.{BeginsAtMost}
use Rattle.pair_laws.specs.host_laws.specs.Calls.{HostsAsk}
use Rattle.pair_laws.specs.host_laws.specs.Feeds.{Feed, Gifts, Learns, Receives, Happens, Sent, Steps}
use Rattle.pair_laws.specs.scenario_laws.specs.Captures.{Ran}
use Rattle.pair_laws.specs.scenario_laws.specs.Gains.{holding}
use Rattle.pair_laws.specs.scenario_laws.specs.Parties.{party_of}
use Rattle.pair_laws.specs.Granted.{HappenedGranted}
use Rattle.pair_laws.specs.Keeping.{LosesNothing, PairsKeepOrder}
use Rattle.request_laws.specs.BothFed.{GrantsAll}
use Rattle.request_laws.specs.GainsCarried.{AllAreHeard}

-- the excerpts of objects that the shelf gave are octets, whatever it holds
abbrev pub GivesOctets : Feed → Type 0
GivesOctets (Gifts circumstances) = AllByRecursion (IsHeld None) (parts_in circumstances)
GivesOctets (Learns circumstances news) = Unit {0}
GivesOctets (Receives own psm sdu) = Unit {0}
GivesOctets (Happens event v) = Unit {0}
GivesOctets (Sent v) = Unit {0}
GivesOctets (Steps v) = Unit {0}

-- an SDU that came are octets
abbrev pub ReceivesOctets : Feed → Type 0
ReceivesOctets (Gifts circumstances) = Unit {0}
ReceivesOctets (Learns circumstances news) = Unit {0}
ReceivesOctets (Receives own psm sdu) = IsOctets sdu
ReceivesOctets (Happens event v) = Unit {0}
ReceivesOctets (Sent v) = Unit {0}
ReceivesOctets (Steps v) = Unit {0}

-- What is asked in a run, of the ports alone: the parts of objects that the shelf gave were octets, it told of no object that is longer than a client can
-- push, and the inbox granted all calls.
pub record HeardAnswer (asks : HostsAsk) (scenario : Scenario) (before : List Object) (capture : List Entry) (ran : Ran scenario (holding before) capture) (order : PairsKeepOrder asks scenario (holding before) capture ran) : Type 0 where
  pub given : AllByRecursion GivesOctets order.turns.pairs.a.fed.so.lives.feeds
  pub small : AllByRecursion (BeginsAtMost longest_octets) order.turns.pairs.a.fed.so.lives.feeds
  pub granted : AllByRecursion GrantsAll order.turns.pairs.b.fed.so.lives.feeds

-- Then no request is ignored, and the inbox gained what the capture spells.
pub record ServesHeardRuns (asks : HostsAsk) (scenario : Scenario) (before : List Object) (capture : List Entry) (ran : Ran scenario (holding before) capture) : Type 0 where
  pub order : PairsKeepOrder asks scenario (holding before) capture ran
  pub heard : HeardAnswer asks scenario before capture ran order → AllAreHeard asks scenario before capture ran order
  pub gained : HeardAnswer asks scenario before capture ran order → stored_in ran.world.b.upper.profile.inbox.content ≡ Some (before ++ objects_heard (party_of scenario.settings sides.B) sides.B capture)

-- So it is at each moment of each run over RFCOMM, whose words lose, cut, repeat and damage nothing, wherever it broke off.
pub record RunsServeHeard : Type 0 where
  pub asks : HostsAsk
  pub runs : (scenario : Scenario) (before : List Object) (capture : List Entry) (ran : Ran scenario (holding before) capture) → scenario.settings.transport ≡ Rfcomm → LosesNothing (all_words ran.happenings)
      → ServesHeardRuns asks scenario before capture ran

-- ---- where the inbox grants all

-- as in any run; and that the inbox granted all calls is asked no more
pub record ServesHeardGranted (asks : HostsAsk) (scenario : Scenario) (before : List Object) (capture : List Entry) (ran : Ran scenario (holding before) capture) : Type 0 where
  pub heard : ServesHeardRuns asks scenario before capture ran
  pub granted : AllByRecursion GrantsAll heard.order.turns.pairs.b.fed.so.lives.feeds

pub record RunsServeHeardGranted : Type 0 where
  pub asks : HostsAsk
  pub runs : (scenario : Scenario) (before : List Object) (capture : List Entry) (ran : Ran scenario (holding before) capture) → scenario.settings.transport ≡ Rfcomm → LosesNothing (all_words ran.happenings)
      → HappenedGranted scenario (holding before) ran.happenings ran.world → ServesHeardGranted asks scenario before capture ran
