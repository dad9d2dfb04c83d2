-- The server of a run is orderly (Object Push Profile 1.2, 4.3; Core 5.1, Volume 3 Part A, 4.2 and 4.3).
use Rattle.std.specs.Prelude.{◌≡◌, true, false, List, [], Option}
use Rattle.std.specs.List.{AllByRecursion, flat_map}
use Rattle.radio_world.specs.bt_base.specs.declared.settings.Settings.{Settings}
use Rattle.radio_world.specs.bt_base.specs.declared.settings.Transport.{Transport}
use Rattle.radio_world.specs.bt_base.specs.declared.settings.Transport.TheVariants.{L2cap}
use Rattle.radio_world.specs.bt_base.specs.Objects.{Object, Contents}
use Rattle.radio_world.specs.push_terms.specs.declared.word.Side.{Side}
use Rattle.radio_world.specs.push_terms.specs.declared.word.Side.TheVariants as sides
use Rattle.radio_world.specs.push_script.specs.declared.scenario.Scenario.{Scenario}
use Rattle.radio_world.specs.capture.specs.Entries.{Entry}
use Rattle.radio_world.specs.capture.specs.declared.flow.Flow.TheVariants.{Out}
use Rattle.host_laws.specs.channel_model.specs.Policies.{policy}
use Rattle.host_laws.specs.channel_laws.specs.Singly.{calls_that_went, AreOneByOne}
use Rattle.host_laws.specs.link_talk.specs.Captures.{talks}
use Rattle.host_laws.specs.push_laws.specs.Occurrences.{begun}
use Rattle.host_laws.specs.push_laws.specs.Premises.{AllMayCome}
use Rattle.host_laws.specs.world_model.specs.Talks.{Talk}
use Rattle.host_laws.specs.host_model.specs.Hosts.{Host, first_host}
use Rattle.host_laws.specs.host_model.specs.Profiles.{Profile}
use Rattle.host_laws.specs.host_model.specs.Clients.{client_profile}
use Rattle.host_laws.specs.host_model.specs.Servers.{ServerProfile, server_profile}
use Rattle.host_laws.specs.Calls.{Asks, HostsAsk}
use Rattle.host_laws.specs.InOrder.{may_ask, AsksForOneObject, IsWhole}
use Rattle.host_laws.specs.Lives.{on_links}
use Rattle.host_laws.specs.OverLinks.{parts, moved_in, talk_marks, TalksOverLinks}
use Rattle.scenario_laws.specs.Captures.{Ran}
use Rattle.scenario_laws.specs.Coming.{CameOver}
use Rattle.scenario_laws.specs.Gentle.{AreFreeUp}
use Rattle.scenario_laws.specs.Gains.{holding, serving, asked_by, all_served, OrderlyServer}

-- ---- requests for channels

-- on each link host a asks for service discovery, and for one channel besides that may carry packets over the transport
abbrev pub AsksOnce : Transport → List Talk → Type 0
AsksOnce transport talk = AllByRecursion (λ part. AreOneByOne (may_ask transport) (calls_that_went Out (moved_in part))) (parts talk)

-- It does, however it came to what the capture has of its links, where it was free.
abbrev pub ClientsAskOnce : Type 0
ClientsAskOnce = (scenario : Scenario) (content : Option Contents) (capture : List Entry) (ran : Ran scenario content capture) (came : CameOver (client_profile scenario.settings) sides.A capture ran.world.a.upper)
    → AreFreeUp (client_profile scenario.settings) false came.over.acts (first_host (client_profile scenario.settings)) → AsksOnce scenario.settings.transport came.talk

-- So it comes to host b on each link of the capture, whatever the air left out and repeated.
abbrev pub ServersAreAskedOnce : Type 0
ServersAreAskedOnce = (scenario : Scenario) (content : Option Contents) (capture : List Entry) (ran : Ran scenario content capture) → AllByRecursion (AsksForOneObject scenario.settings.transport) (talks sides.B capture)

-- ---- how both live

-- However a host of a run came to what the capture has, it lived so through it, where it was free.
abbrev pub LivesFreely : {P : Type 0} (A : Profile P) → Asks A → Side → List Entry → Host P → Type 0
LivesFreely A asks side capture now = (came : CameOver A side capture now) → AreFreeUp A false came.over.acts (first_host A) → TalksOverLinks A asks came.talk now

pub record BothLive (asks : HostsAsk) (scenario : Scenario) (content : Option Contents) (capture : List Entry) (ran : Ran scenario content capture) : Type 0 where
  pub a : LivesFreely (client_profile scenario.settings) (asks.clients scenario.settings) sides.A capture ran.world.a.upper
  pub b : LivesFreely (server_profile scenario.settings content) (asks.servers scenario.settings content) sides.B capture ran.world.b.upper

abbrev pub HostsLiveOverLinks : Type 0
HostsLiveOverLinks = (asks : HostsAsk) (scenario : Scenario) (content : Option Contents) (capture : List Entry) (ran : Ran scenario content capture) → BothLive asks scenario content capture ran

-- ---- the server

-- Host b came by a talk to what the capture has of its links, and lived so through it that no call of its inbox fails, no request is ignored,
-- and all that comes on its channels is handed up.
pub record ServesSo (asks : HostsAsk) (settings : Settings) (before : List Object) (capture : List Entry) (now : Host ServerProfile) : Type 0 where
  pub came : CameOver (serving settings before) sides.B capture now
  pub so : TalksOverLinks (serving settings before) (asked_by asks settings before) came.talk now
  pub comes : AllMayCome settings [] (begun settings (holding before)) (all_served asks settings before came.talk now so)
  pub whole : AllByRecursion (IsWhole (policy settings true)) (on_links (serving settings before) (asked_by asks settings before) (flat_map talk_marks came.talk) now so.lives)

-- ---- the law

-- At each moment of each run over L2CAP, wherever it broke off, host b serves in order: it asks for no channel, its client gives each of its endpoints to one channel, one channel carries packets on each link, and nothing comes over RFCOMM.
pub record ServersAreOrderly : Type 0 where
  pub asks : HostsAsk
  pub orderly : (scenario : Scenario) (before : List Object) (capture : List Entry) (ran : Ran scenario (holding before) capture) → scenario.settings.transport ≡ L2cap
      → ServesSo asks scenario.settings before capture ran.world.b.upper → OrderlyServer asks scenario.settings before capture ran.world.b.upper
