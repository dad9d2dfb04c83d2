-- What the inbox gains over L2CAP where it grants all calls, of objects of any size: also where requests are ignored, behind a refusal in single response
-- mode (Object Push Profile 1.2, 4.3; Generic Object Exchange Profile 2.1, 4.6).
use Rattle.std.specs.Prelude.{◌≡◌, List, ◌++◌, Some}
use Rattle.std.specs.List.{AllByRecursion}
use Rattle.pair_laws.specs.bt_base.specs.declared.settings.Settings.{Settings}
use Rattle.pair_laws.specs.bt_base.specs.declared.settings.Transport.TheVariants.{L2cap}
use Rattle.pair_laws.specs.bt_base.specs.Objects.{Object}
use Rattle.pair_laws.specs.push_script.specs.declared.scenario.Scenario.{Scenario}
use Rattle.pair_laws.specs.push_terms.specs.declared.word.Side.TheVariants as sides
use Rattle.pair_laws.specs.capture.specs.Entries.{Entry}
use Rattle.pair_laws.specs.obex_session.specs.InboxCalls.{Answer}
use Rattle.pair_laws.specs.link_talk.specs.Captures.{objects_heard}
use Rattle.pair_laws.specs.push_laws.specs.Gains.{objects}
use Rattle.pair_laws.specs.push_laws.specs.Laws.{new_over, stored_in}
use Rattle.pair_laws.specs.push_laws.specs.Occurrences.{Occurrence, all_done}
use Rattle.pair_laws.specs.push_laws.specs.Premises.{AllGranted}
use Rattle.pair_laws.specs.world_model.specs.Talks.{Talk}
use Rattle.pair_laws.specs.host_model.specs.Clients.{ClientProfile, client_profile}
use Rattle.pair_laws.specs.host_model.specs.Hosts.{Host}
use Rattle.pair_laws.specs.host_model.specs.Servers.{ServerProfile, server_profile}
use Rattle.pair_laws.specs.shelf_model.specs.Held.{longest_octets}
use Rattle.pair_laws.specs.host_laws.specs.Answered.{BeginsAtMost}
use Rattle.pair_laws.specs.host_laws.specs.Calls.{HostsAsk}
use Rattle.pair_laws.specs.host_laws.specs.Fed.{TalksFed}
use Rattle.pair_laws.specs.host_laws.specs.Gaining.{IsDirect}
use Rattle.pair_laws.specs.host_laws.specs.Serving.{served_from}
use Rattle.pair_laws.specs.scenario_laws.specs.Captures.{Ran}
use Rattle.pair_laws.specs.scenario_laws.specs.Gains.{holding}
use Rattle.pair_laws.specs.scenario_laws.specs.Parties.{party_of}
use Rattle.pair_laws.specs.InTurn.{PairsInTurn}
use Rattle.pair_laws.specs.OnLinks.{ArePairs}
use Rattle.request_laws.specs.BothFed.{InboxAnswers, GrantsAll, AreTwined, over_stored}
use Rattle.request_laws.specs.Twists.{Set}

-- ---- over all links

-- On each link the channels of the object were pipes at each moment; the shelf told no object that is longer, and what the inbox answered is so.
pub record BothAreOffered (Are : List Answer → Type 0) (set : Set) (talk_a talk_b : List Talk) (a : Host ClientProfile) (b : Host ServerProfile)
    (near : TalksFed (client_profile set.settings) (set.asks.clients set.settings) talk_a a)
    (far : TalksFed (server_profile set.settings set.content) (set.asks.servers set.settings set.content) talk_b b) : Type 0 where
  pub twined : AreTwined set (λ k. k) near.so.lives.spans near.so.lives.now near.so.lives.feeds (client_profile set.settings).first a.profile
      far.so.lives.spans far.so.lives.now far.so.lives.feeds (server_profile set.settings set.content).first b.profile near.fed far.fed
  pub small : AllByRecursion (BeginsAtMost longest_octets) near.so.lives.feeds
  pub answers : AllByRecursion (InboxAnswers Are) far.so.lives.feeds

-- what they spell is what the inbox holds behind them
abbrev pub GainsSpelled : (settings : Settings) (before : List Object) (occurrences : List Occurrence) → Type 0
GainsSpelled settings before occurrences = stored_in (all_done occurrences (new_over settings before)).gift.content ≡ Some (before ++ objects settings occurrences)

-- Where it granted all calls it gained what the packets spell that came, where nothing comes or goes over RFCOMM.
abbrev pub LinksGainAll : Type 0
LinksGainAll = (asks : HostsAsk) (settings : Settings) (before : List Object) → settings.transport ≡ L2cap →
    let set = over_stored asks settings before in
    (talk_a talk_b : List Talk) (a : Host ClientProfile) (b : Host ServerProfile)
    (near : TalksFed (client_profile settings) (asks.clients settings) talk_a a) (far : TalksFed (server_profile settings set.content) (asks.servers settings set.content) talk_b b)
    → BothAreOffered AllGranted set talk_a talk_b a b near far → AllByRecursion IsDirect (served_from settings set.content (server_profile settings set.content).first far.so.lives.feeds)
    → GainsSpelled settings before (served_from settings set.content (server_profile settings set.content).first far.so.lives.feeds)

-- ---- runs

-- In a run the inbox granted all calls, and the shelf told no object that is longer than a client can push.
pub record InboxGrants (asks : HostsAsk) (scenario : Scenario) (before : List Object) (capture : List Entry) (ran : Ran scenario (holding before) capture) (pairs : ArePairs asks scenario (holding before) capture ran) : Type 0 where
  pub small : AllByRecursion (BeginsAtMost longest_octets) pairs.a.fed.so.lives.feeds
  pub granted : AllByRecursion GrantsAll pairs.b.fed.so.lives.feeds

-- The channels of both hosts are pairs, and their links go side by side; and where the inbox grants all, it gained what the capture spells.
pub record GainsTogether (asks : HostsAsk) (scenario : Scenario) (before : List Object) (capture : List Entry) (ran : Ran scenario (holding before) capture) : Type 0 where
  pub turns : PairsInTurn asks scenario (holding before) capture ran
  pub gains : InboxGrants asks scenario before capture ran turns.pairs → stored_in ran.world.b.upper.profile.inbox.content ≡ Some (before ++ objects_heard (party_of scenario.settings sides.B) sides.B capture)

-- So it is at each moment of each run over L2CAP, wherever it broke off. Nothing more is asked of what both hosts ask of their channels.
pub record RunsGainAll : Type 0 where
  pub asks : HostsAsk
  pub runs : (scenario : Scenario) (before : List Object) (capture : List Entry) (ran : Ran scenario (holding before) capture) → scenario.settings.transport ≡ L2cap
      → GainsTogether asks scenario before capture ran
