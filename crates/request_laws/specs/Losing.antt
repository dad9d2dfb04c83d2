-- What the inbox gains over L2CAP where its calls fail, of objects of any size (Object Push Profile 1.2, 4.3; that a fault leaves out one object at
-- most is this project's own).
use Rattle.std.specs.Prelude.{◌≡◌, List, [], ◌++◌, Option, Some}
use Rattle.std.specs.List.{AllByRecursion}
use Rattle.pair_laws.specs.bt_base.specs.declared.settings.Settings.{Settings}
use Rattle.pair_laws.specs.bt_base.specs.declared.settings.Transport.TheVariants.{L2cap}
use Rattle.pair_laws.specs.bt_base.specs.Objects.{Object}
use Rattle.pair_laws.specs.push_script.specs.declared.scenario.Scenario.{Scenario}
use Rattle.pair_laws.specs.push_terms.specs.declared.word.Side.TheVariants as sides
use Rattle.pair_laws.specs.capture.specs.Entries.{Entry}
use Rattle.pair_laws.specs.link_talk.specs.Captures.{objects_heard}
use Rattle.pair_laws.specs.push_laws.specs.Faults as with_faults
use Rattle.pair_laws.specs.push_laws.specs.Faults.{marked_from, spent_from}
use Rattle.pair_laws.specs.push_laws.specs.Gains.{objects}
use Rattle.pair_laws.specs.push_laws.specs.Laws.{new_over, stored_in}
use Rattle.pair_laws.specs.push_laws.specs.Losing.{LeavesOut}
use Rattle.pair_laws.specs.push_laws.specs.Marks.{AllSayMarks}
use Rattle.pair_laws.specs.push_laws.specs.Occurrences.{Occurrence, all_done}
use Rattle.pair_laws.specs.push_laws.specs.Premises.{NoneShort}
use Rattle.pair_laws.specs.world_model.specs.Talks.{Talk}
use Rattle.pair_laws.specs.host_model.specs.Clients.{ClientProfile, client_profile}
use Rattle.pair_laws.specs.host_model.specs.Hosts.{Host}
use Rattle.pair_laws.specs.host_model.specs.Servers.{ServerProfile, server_profile}
use Rattle.pair_laws.specs.shelf_model.specs.Held.{longest_octets}
use Rattle.pair_laws.specs.host_laws.specs.Answered.{BeginsAtMost}
use Rattle.pair_laws.specs.host_laws.specs.Calls.{HostsAsk}
use Rattle.pair_laws.specs.host_laws.specs.Fed.{TalksFed}
use Rattle.pair_laws.specs.host_laws.specs.Gaining.{IsDirect}
use Rattle.pair_laws.specs.host_laws.specs.Serving.{served_from}
use Rattle.pair_laws.specs.scenario_laws.specs.Captures.{Ran}
use Rattle.pair_laws.specs.scenario_laws.specs.Gains.{holding}
use Rattle.pair_laws.specs.scenario_laws.specs.Parties.{party_of}
use Rattle.pair_laws.specs.InTurn.{PairsInTurn}
use Rattle.pair_laws.specs.OnLinks.{ArePairs}
use Rattle.request_laws.specs.AllSizes.{BothAreOffered}
use Rattle.request_laws.specs.BothFed.{InboxAnswers, over_stored}

-- Behind what was stored at first the inbox gained these objects in their order, but for one at most for each fault that its calls used up. Those that
-- it gained are what the packets spell if those at which a call failed, and those ignored, count as refused; and success is said to a PUT exactly where it
-- stores an object, and D0 to a packet at which a call fails.
pub record LosesFew (settings : Settings) (before : List Object) (occurrences : List Occurrence) (spelled : List Object) (stored : Option (List Object)) : Type 0 where
  pub gain : List Object
  pub stored_is : stored ≡ Some (before ++ gain)
  pub leaves : LeavesOut gain spelled (spent_from (new_over settings before) occurrences)
  pub marked : gain ≡ with_faults.objects settings (marked_from [] (new_over settings before) occurrences)
  pub said : AllSayMarks settings [] (new_over settings before) occurrences

-- ---- over all links

-- So it is where the inbox does not lack memory, and nothing comes or goes over RFCOMM.
abbrev pub LinksGainLess : Type 0
LinksGainLess = (asks : HostsAsk) (settings : Settings) (before : List Object) → settings.transport ≡ L2cap →
    let set = over_stored asks settings before in
    (talk_a talk_b : List Talk) (a : Host ClientProfile) (b : Host ServerProfile)
    (near : TalksFed (client_profile settings) (asks.clients settings) talk_a a) (far : TalksFed (server_profile settings set.content) (asks.servers settings set.content) talk_b b)
    → BothAreOffered NoneShort set talk_a talk_b a b near far
    → let served = served_from settings set.content (server_profile settings set.content).first far.so.lives.feeds in
    AllByRecursion IsDirect served → LosesFew settings before served (objects settings served) (stored_in (all_done served (new_over settings before)).gift.content)

-- ---- runs

-- In a run the inbox did not lack memory, and the shelf told no object that is longer than a client can push.
pub record InboxIsEnough (asks : HostsAsk) (scenario : Scenario) (before : List Object) (capture : List Entry) (ran : Ran scenario (holding before) capture) (pairs : ArePairs asks scenario (holding before) capture ran) : Type 0 where
  pub small : AllByRecursion (BeginsAtMost longest_octets) pairs.a.fed.so.lives.feeds
  pub enough : AllByRecursion (InboxAnswers NoneShort) pairs.b.fed.so.lives.feeds

-- what happened to the server of host b
abbrev pub served_in : (asks : HostsAsk) (scenario : Scenario) (before : List Object) (capture : List Entry) (ran : Ran scenario (holding before) capture) → ArePairs asks scenario (holding before) capture ran → List Occurrence
served_in asks scenario before capture ran pairs = served_from scenario.settings (holding before) (server_profile scenario.settings (holding before)).first pairs.b.fed.so.lives.feeds

-- The channels of both hosts are pairs, and their links go side by side; and where the inbox does not lack memory, it gained what the capture spells, but
-- for few objects.
pub record LosesTogether (asks : HostsAsk) (scenario : Scenario) (before : List Object) (capture : List Entry) (ran : Ran scenario (holding before) capture) : Type 0 where
  pub turns : PairsInTurn asks scenario (holding before) capture ran
  pub loses : InboxIsEnough asks scenario before capture ran turns.pairs
      → LosesFew scenario.settings before (served_in asks scenario before capture ran turns.pairs) (objects_heard (party_of scenario.settings sides.B) sides.B capture) (stored_in ran.world.b.upper.profile.inbox.content)

-- So it is at each moment of each run over L2CAP, wherever it broke off. Nothing more is asked of what both hosts ask of their channels.
pub record RunsGainLess : Type 0 where
  pub asks : HostsAsk
  pub runs : (scenario : Scenario) (before : List Object) (capture : List Entry) (ran : Ran scenario (holding before) capture) → scenario.settings.transport ≡ L2cap
      → LosesTogether asks scenario before capture ran
