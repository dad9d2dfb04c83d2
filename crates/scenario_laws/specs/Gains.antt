-- What the inbox gains, over the capture alone (IrOBEX 1.5, 3.4.3; Object Push Profile 1.2, 4.3).
use Rattle.std.specs.Prelude.{◌≡◌, true, List, [], ◌∷◌, ◌++◌, map, Option, Some, None}
use Rattle.std.specs.List.{AllByRecursion, AllZip, flat_map}
use Rattle.radio_world.specs.bt_base.specs.declared.settings.Settings.{Settings}
use Rattle.radio_world.specs.bt_base.specs.declared.settings.Transport.TheVariants.{L2cap}
use Rattle.radio_world.specs.bt_base.specs.Objects.{Object, Contents}
use Rattle.radio_world.specs.push_terms.specs.declared.word.Side.TheVariants as sides
use Rattle.radio_world.specs.push_script.specs.declared.scenario.Scenario.{Scenario}
use Rattle.radio_world.specs.capture.specs.Entries.{Entry}
use Rattle.radio_world.specs.capture.specs.Links.{Link, link_up}
use Rattle.host_laws.specs.link_talk.specs.Captures.{talks, objects_heard}
use Rattle.host_laws.specs.link_talk.specs.Sayings.{Saying}
use Rattle.host_laws.specs.channel_model.specs.Policies.{policy}
use Rattle.host_laws.specs.push_laws.specs.Occurrences.{Occurrence, begun}
use Rattle.host_laws.specs.push_laws.specs.Gains.{objects as spelled_by}
use Rattle.host_laws.specs.push_laws.specs.Premises.{AllMayCome}
use Rattle.host_laws.specs.push_laws.specs.Laws.{stored_in}
use Rattle.host_laws.specs.world_model.specs.Talks.{Talk}
use Rattle.host_laws.specs.host_model.specs.Hosts.{Host, first_host}
use Rattle.host_laws.specs.host_model.specs.Profiles.{Profile}
use Rattle.host_laws.specs.host_model.specs.Servers.{ServerProfile, server_profile}
use Rattle.host_laws.specs.Calls.{Asks, HostsAsk}
use Rattle.host_laws.specs.Carriers.{CarriedLink, IsReadOn, links_of}
use Rattle.host_laws.specs.Gaining.{IsDirect}
use Rattle.host_laws.specs.GainingOver.{CarriedOne, CarriesOne}
use Rattle.host_laws.specs.Lives.{Span}
use Rattle.host_laws.specs.OverLinks.{parts, moved_in, talk_marks, TalksOverLinks}
use Rattle.host_laws.specs.Serving.{served}
use Rattle.host_laws.specs.Spoken.{IsServed}
use Rattle.scenario_laws.specs.Captures.{Ran}
use Rattle.scenario_laws.specs.Coming.{CameOver}
use Rattle.scenario_laws.specs.Parties.{party_of}

-- an inbox that stored these, and has none begun
abbrev pub holding : List Object → Option Contents
holding before = Some (record { stored = before; pending = None })

abbrev pub serving : Settings → List Object → Profile ServerProfile
serving settings before = server_profile settings (holding before)

abbrev pub asked_by : (asks : HostsAsk) (settings : Settings) (before : List Object) → Asks (serving settings before)
asked_by asks settings before = asks.servers settings (holding before)

-- what happened to the server of host b, as it lived through this talk
abbrev pub all_served : (asks : HostsAsk) (settings : Settings) (before : List Object) (talk : List Talk) (now : Host ServerProfile) → TalksOverLinks (serving settings before) (asked_by asks settings before) talk now → List Occurrence
all_served asks settings before talk now so = served settings (holding before) (asked_by asks settings before) (flat_map talk_marks talk) now so.lives

-- What is asked of host b over all its links: it came to what the capture has by a talk, and lived so through it that no call of the inbox
-- fails, no request is ignored, and one channel alone carries packets on each link, over L2CAP; it asks for no channel, and host a gives each
-- of its endpoints once. Each run has such a talk, and a host that is gentle on its links lives through it.
pub record OrderlyServer (asks : HostsAsk) (settings : Settings) (before : List Object) (capture : List Entry) (now : Host ServerProfile) : Type 0 where
  pub came : CameOver (serving settings before) sides.B capture now
  pub so : TalksOverLinks (serving settings before) (asked_by asks settings before) came.talk now
  pub comes : AllMayCome settings [] (begun settings (holding before)) (all_served asks settings before came.talk now so)
  pub direct : AllByRecursion IsDirect (all_served asks settings before came.talk now so)
  pub carried : AllByRecursion (λ (span : Span). CarriedOne (policy settings true) span.event span.list) so.lives.spans
  pub carries : CarriesOne (policy settings true) so.lives.now
  pub granted : AllByRecursion (λ part. IsServed (moved_in part)) (parts came.talk)

-- The same, whether or not a call of the inbox fails or a request is ignored.
pub record ReadServer (asks : HostsAsk) (settings : Settings) (before : List Object) (capture : List Entry) (now : Host ServerProfile) : Type 0 where
  pub came : CameOver (serving settings before) sides.B capture now
  pub so : TalksOverLinks (serving settings before) (asked_by asks settings before) came.talk now
  pub direct : AllByRecursion IsDirect (all_served asks settings before came.talk now so)
  pub carried : AllByRecursion (λ (span : Span). CarriedOne (policy settings true) span.event span.list) so.lives.spans
  pub carries : CarriesOne (policy settings true) so.lives.now
  pub granted : AllByRecursion (λ part. IsServed (moved_in part)) (parts came.talk)

-- So is each server to which nothing happened yet.
abbrev pub FirstServersAreOrderly : Type 0
FirstServersAreOrderly = (asks : HostsAsk) (settings : Settings) (before : List Object) → OrderlyServer asks settings before [] (first_host (serving settings before))

-- At each moment of a run, wherever it broke off, the inbox has gained exactly the objects that the packets spell which host b heard by
-- then, as the capture has them, in the order of their last packets.
abbrev pub GainsExactly : Type 0
GainsExactly = (asks : HostsAsk) (scenario : Scenario) (before : List Object) (capture : List Entry) (ran : Ran scenario (holding before) capture) → scenario.settings.transport ≡ L2cap
    → OrderlyServer asks scenario.settings before capture ran.world.b.upper
    → stored_in ran.world.b.upper.profile.inbox.content ≡ Some (before ++ objects_heard (party_of scenario.settings sides.B) sides.B capture)

-- What it heard spells exactly what the capture spells of what host b heard.
abbrev pub ServersAreRead : Type 0
ServersAreRead = (asks : HostsAsk) (scenario : Scenario) (before : List Object) (capture : List Entry) (ran : Ran scenario (holding before) capture) → scenario.settings.transport ≡ L2cap
    → (read : ReadServer asks scenario.settings before capture ran.world.b.upper)
    → spelled_by scenario.settings (all_served asks scenario.settings before read.came.talk ran.world.b.upper read.so) ≡ objects_heard (party_of scenario.settings sides.B) sides.B capture

-- ---- over either transport

abbrev pub behind_last : Option Link → List (List Saying)
behind_last None = [] ∷ []
behind_last (Some link) = []

-- what moved on each link of host b, over the transport of the scenario; where none is up, nothing behind the last
abbrev pub carried_links : Settings → List Entry → List CarriedLink
carried_links settings capture = map (λ said. record { transport = settings.transport; moved = said }) (talks sides.B capture ++ behind_last (link_up sides.B capture))

-- Over either transport host b lived so through a talk by which it came to what the capture has, that no call of the inbox fails, no request
-- is ignored, and on each link what happened to its server is read off what moved there.
pub record ServesByCarriers (asks : HostsAsk) (settings : Settings) (before : List Object) (capture : List Entry) (now : Host ServerProfile) : Type 0 where
  pub came : CameOver (serving settings before) sides.B capture now
  pub so : TalksOverLinks (serving settings before) (asked_by asks settings before) came.talk now
  pub comes : AllMayCome settings [] (begun settings (holding before)) (all_served asks settings before came.talk now so)
  pub read : AllZip (IsReadOn settings settings.mps) (links_of (all_served asks settings before came.talk now so)) (carried_links settings capture)

-- Over RFCOMM as over L2CAP the inbox has gained exactly what the capture spells, at each moment of a run.
abbrev pub GainsOverEither : Type 0
GainsOverEither = (asks : HostsAsk) (scenario : Scenario) (before : List Object) (capture : List Entry) (ran : Ran scenario (holding before) capture)
    → ServesByCarriers asks scenario.settings before capture ran.world.b.upper
    → stored_in ran.world.b.upper.profile.inbox.content ≡ Some (before ++ objects_heard (party_of scenario.settings sides.B) sides.B capture)
