-- Servers whose client asks for one channel of packets on each link (Object Push Profile 1.2, 4.3 and 5; Core 5.1, Volume 3 Part A, 4.2 and
-- 4.3; RFCOMM 1.2, 2.1).
use Rattle.std.specs.Prelude.{ℕ, ◌≡◌, ◌==◌, ◌&&◌, ◌||◌, not, Bool, true, false, List, [], Option, Some, None}
use Rattle.std.specs.List.{AllByRecursion, flat_map, list_any}
use Rattle.shelf_model.specs.bt_base.specs.declared.settings.Settings.{Settings}
use Rattle.shelf_model.specs.bt_base.specs.declared.settings.Transport.{Transport}
use Rattle.shelf_model.specs.bt_base.specs.declared.settings.Transport.TheVariants.{L2cap, Rfcomm}
use Rattle.shelf_model.specs.bt_base.specs.Objects.{Contents}
use Rattle.shelf_model.specs.capture.specs.Histories.{EachAfter}
use Rattle.shelf_model.specs.capture.specs.declared.flow.Flow.TheVariants.{Out, Into}
use Rattle.push_laws.specs.link_talk.specs.declared.call.Call.{Call}
use Rattle.push_laws.specs.link_talk.specs.declared.call.Wanted.{Wanted}
use Rattle.push_laws.specs.link_talk.specs.declared.channel.Channel.{Channel}
use Rattle.push_laws.specs.link_talk.specs.Sayings.{Saying}
use Rattle.channel_laws.specs.channel_model.specs.Policies.{Policy, policy}
use Rattle.channel_laws.specs.channel_model.specs.Value.{Channels}
use Rattle.channel_laws.specs.Runs.{Occurrence, run_of}
use Rattle.channel_laws.specs.Singly.{calls_that_went, AreOneByOne, AsksSo}
use Rattle.shelf_model.specs.world_model.specs.Talks.{Talk}
use Rattle.shelf_model.specs.host_model.specs.Hosts.{Host}
use Rattle.shelf_model.specs.host_model.specs.Clients.{ClientProfile, client_profile}
use Rattle.shelf_model.specs.host_model.specs.Profiles.{Profile}
use Rattle.shelf_model.specs.host_model.specs.Servers.{ServerProfile, server_profile}
use Rattle.host_laws.specs.Calls.{Asks, Connect, HostsAsk}
use Rattle.host_laws.specs.Gaining.{IsDirect, HandsAllUp}
use Rattle.host_laws.specs.GainingOver.{CarriedOne, CarriesOne}
use Rattle.host_laws.specs.Lives.{Span, on_links}
use Rattle.host_laws.specs.OverLinks.{parts, moved_in, talk_marks, TalksOverLinks}
use Rattle.host_laws.specs.Serving.{served}
use Rattle.host_laws.specs.Spoken.{IsServed}

-- ---- what is asked of the client

-- a request for another channel than that of service discovery
abbrev pub is_beyond : Option Wanted → Bool
is_beyond None = true
is_beyond (Some wanted) = not (wanted.psm == 0x0001)

abbrev pub seeks_object : Call → Bool
seeks_object one = is_beyond one.wanted

-- A channel to that PSM may carry packets over the transport: over RFCOMM it is that of the multiplexer, over L2CAP the service names it, and it is
-- not RFCOMM's.
abbrev pub may_carry : Transport → ℕ → Bool
may_carry L2cap psm = not (psm == 0x0003)
may_carry Rfcomm psm = psm == 0x0003

-- service discovery may be asked for at any time, and one channel besides, which may carry packets
abbrev pub may_ask : Transport → ℕ → List Call → Bool
may_ask transport psm before = (psm == 0x0001) || (may_carry transport psm && not (list_any seeks_object before))

abbrev pub AsksForOneObject : Transport → List Saying → Type 0
AsksForOneObject transport moved = AreOneByOne (may_ask transport) (calls_that_went Into moved)

-- ---- what is asked of the host

-- its profile never asks for a channel; so it is of servers
abbrev pub AsksNoChannels : {P : Type 0} (A : Profile P) → Asks A → Type 0
AsksNoChannels {P} A asks = (v : Channels) (p : P) (psm : ℕ) → asks.call v p ≡ Some (Connect psm) → ⊥

pub record ServersAskNothing : Type 0 where
  pub asks : HostsAsk
  pub nothing : (settings : Settings) (content : Option Contents) → AsksNoChannels (server_profile settings content) (asks.servers settings content)

-- all that its talk brings of a channel is handed up, also of one that its machine closes
abbrev pub IsWhole : Policy → List Occurrence → Type 0
IsWhole policy list = (channel : Channel) → HandsAllUp policy list channel

-- ---- the law

-- Over L2CAP it then asks for no channel, each endpoint of its peer has one of its own, one channel carries packets on each link, and nothing comes
-- over RFCOMM.
pub record IsServedInOrder (settings : Settings) (content : Option Contents) (asks : Asks (server_profile settings content)) (talk : List Talk) (now : Host ServerProfile) (so : TalksOverLinks (server_profile settings content) asks talk now) : Type 0 where
  pub direct : AllByRecursion IsDirect (served settings content asks (flat_map talk_marks talk) now so.lives)
  pub carried : AllByRecursion (λ (span : Span). CarriedOne (policy settings true) span.event span.list) so.lives.spans
  pub carries : CarriesOne (policy settings true) so.lives.now
  pub granted : AllByRecursion (λ part. IsServed (moved_in part)) (parts talk)

abbrev pub ServersAreServedInOrder : Type 0
ServersAreServedInOrder = (settings : Settings) (content : Option Contents) (asks : Asks (server_profile settings content)) (talk : List Talk) (now : Host ServerProfile) (so : TalksOverLinks (server_profile settings content) asks talk now)
    → AsksNoChannels (server_profile settings content) asks → AllByRecursion (λ part. AsksForOneObject L2cap (moved_in part)) (parts talk)
    → AllByRecursion (IsWhole (policy settings true)) (on_links (server_profile settings content) asks (flat_map talk_marks talk) now so.lives) → IsServedInOrder settings content asks talk now so

-- ---- the client

-- it asks for its next channel when no other one is only asked for, for that of service discovery at any time and for one besides
abbrev pub CallsInOrder : Transport → Policy → List Occurrence → Type 0
CallsInOrder transport policy list = EachAfter (λ front one. AsksSo (may_ask transport) one (run_of policy front)) [] list

-- Then so its requests move on each link, however often its timer repeats them.
abbrev pub ClientsCallInOrder : Type 0
ClientsCallInOrder = (settings : Settings) (asks : Asks (client_profile settings)) (talk : List Talk) (now : Host ClientProfile) (so : TalksOverLinks (client_profile settings) asks talk now)
    → AllByRecursion (CallsInOrder settings.transport (policy settings false)) (on_links (client_profile settings) asks (flat_map talk_marks talk) now so.lives)
    → AllByRecursion (λ part. AreOneByOne (may_ask settings.transport) (calls_that_went Out (moved_in part))) (parts talk)
