-- Links on which channels of objects come one behind the other, and what the inbox of a server gains over them (Object Push Profile 1.2, 4.3; Core 5.1, Volume 3
-- Part A, 4.6 and 4.7; IrOBEX 1.5, 3.4.3).
use Rattle.std.specs.Prelude.{ℕ, ◌≡◌, ◌⊎◌, ◌==◌, ◌&&◌, Bool, true, false, List, [], ◌++◌, Option, Some, None, if◌then◌else◌}
use Rattle.std.specs.List.{AllByRecursion, filter_map, flat_map, list_any}
use Rattle.host_laws.specs.shelf_model.specs.bt_base.specs.declared.settings.Settings.{Settings}
use Rattle.host_laws.specs.shelf_model.specs.bt_base.specs.declared.settings.Transport.TheVariants.{L2cap}
use Rattle.host_laws.specs.shelf_model.specs.bt_base.specs.Objects.{Object, Contents}
use Rattle.host_laws.specs.shelf_model.specs.capture.specs.Histories.{EachAfter}
use Rattle.host_laws.specs.push_laws.specs.link_talk.specs.declared.party.Party.{Party}
use Rattle.host_laws.specs.push_laws.specs.link_talk.specs.Channels.{Entry, reading}
use Rattle.host_laws.specs.push_laws.specs.link_talk.specs.ObjectsHeard.{objects}
use Rattle.host_laws.specs.channel_laws.specs.channel_model.specs.declared.event.ChannelEvent.{ChannelEvent}
use Rattle.host_laws.specs.channel_laws.specs.channel_model.specs.declared.event.ChannelEvent.TheVariants as events
use Rattle.host_laws.specs.channel_laws.specs.channel_model.specs.Policies.{Policy, policy}
use Rattle.host_laws.specs.channel_laws.specs.Runs.{Occurrence, run_of}
use Rattle.host_laws.specs.channel_laws.specs.Sdus.{StatesFrame}
use Rattle.host_laws.specs.push_laws.specs.push_model.specs.Client.{own_maximum}
use Rattle.host_laws.specs.push_laws.specs.push_model.specs.Server.{object_psm}
use Rattle.host_laws.specs.push_laws.specs.Gains as gains
use Rattle.host_laws.specs.push_laws.specs.Laws.{stored_in}
use Rattle.host_laws.specs.push_laws.specs.Occurrences as push
use Rattle.host_laws.specs.push_laws.specs.Premises.{AllMayCome}
use Rattle.host_laws.specs.shelf_model.specs.world_model.specs.Machines.{LinkEvent, Up, Down}
use Rattle.host_laws.specs.shelf_model.specs.world_model.specs.Talks.{Talk}
use Rattle.host_laws.specs.shelf_model.specs.host_model.specs.Hosts.{Host}
use Rattle.host_laws.specs.shelf_model.specs.host_model.specs.Servers.{ServerProfile, is_told, server_profile}
use Rattle.host_laws.specs.Calls.{Asks}
use Rattle.host_laws.specs.Feeds.{Tiding, Brings, Tells, Turns}
use Rattle.host_laws.specs.Gaining.{IsDirect, HandsAllUp}
use Rattle.host_laws.specs.GainingOver.{IsNoPdu, CarriesOne}
use Rattle.host_laws.specs.Keeping.{GivesNothingUp}
use Rattle.host_laws.specs.Lives.{Span, on_links}
use Rattle.host_laws.specs.OverLinks.{parts, moved_in, talk_marks, TalksOverLinks}
use Rattle.host_laws.specs.Serving.{served}
use Rattle.host_laws.specs.Told.{events_told, told_on}

-- ---- channels of objects, as a server is told of them

-- an SDU of one at an own endpoint
abbrev pub object_told : ℕ → Tiding → Option (List ℕ)
object_told own (Brings other psm sdu) = if (other == own) && (psm == object_psm) then Some sdu else None
object_told own (Tells event) = None
object_told own (Turns event) = None

abbrev pub object_sdus_told : ℕ → List Tiding → List (List ℕ)
object_sdus_told own tidings = filter_map (object_told own) tidings

-- that one at an own endpoint was closed, where a server heeds it
abbrev pub ends_objects : ℕ → ChannelEvent → Bool
ends_objects own (events.Opened other psm) = false
ends_objects own (events.Closed other psm reason) = (other == own) && ((psm == object_psm) && is_told reason)
ends_objects own (events.Features features) = false
ends_objects own events.FeaturesLost = false
ends_objects own (events.DisconnectLost other) = false

abbrev pub is_object_over : ℕ → List Tiding → Bool
is_object_over own tidings = list_any (ends_objects own) (events_told tidings)

-- ---- one behind the other

-- each other one that brought an SDU was closed
abbrev pub OthersAreOver : ℕ → List Tiding → Type 0
OthersAreOver own past = (other : ℕ) → (other == own) ≡ false → (object_sdus_told other past ≡ []) ⊎ (is_object_over other past ≡ true)

abbrev pub ClosesBehind : List Tiding → ChannelEvent → Type 0
ClosesBehind past (events.Opened own psm) = Unit {0}
ClosesBehind past (events.Closed own psm reason) = psm ≡ object_psm → OthersAreOver own past
ClosesBehind past (events.Features features) = Unit {0}
ClosesBehind past events.FeaturesLost = Unit {0}
ClosesBehind past (events.DisconnectLost own) = Unit {0}

-- so it is when one brings an SDU, and when one is closed
abbrev pub FollowsOthers : List Tiding → Tiding → Type 0
FollowsOthers past (Brings own psm sdu) = psm ≡ object_psm → OthersAreOver own past
FollowsOthers past (Tells event) = ClosesBehind past event
FollowsOthers past (Turns event) = Unit {0}

abbrev pub IsNotMuxed : Entry → Type 0
IsNotMuxed entry = entry.channel.psm ≡ 0x0003 → ⊥

abbrev pub IsWholeEntry : Policy → List Occurrence → Entry → Type 0
IsWholeEntry policy list entry = entry.channel.psm ≡ object_psm → HandsAllUp policy list entry.channel

-- On a link such channels come one behind the other, over L2CAP, and all that comes on each is handed up.
pub record ObjectsFollow (policy : Policy) (list : List Occurrence) : Type 0 where
  pub direct : AllByRecursion IsNotMuxed (reading (run_of policy list).said).entries
  pub whole : AllByRecursion (IsWholeEntry policy list) (reading (run_of policy list).said).entries
  pub behind : EachAfter FollowsOthers [] (told_on policy list)

-- ---- over all links

-- on a link that goes down they came so; before a link comes up nothing comes in
abbrev pub ObjectsFollowed : Policy → LinkEvent → List Occurrence → Type 0
ObjectsFollowed policy Up list = AllByRecursion IsNoPdu list
ObjectsFollowed policy (Down reason) list = ObjectsFollow policy list

-- the same on the link that there is now, if there is one
abbrev pub ObjectsFollowNow : Policy → List Occurrence → Type 0
ObjectsFollowNow policy list = AllByRecursion IsNoPdu list ⊎ ObjectsFollow policy list

-- ---- the laws

-- One channel alone is such: where it carries packets, and the others are for service discovery.
abbrev pub OneChannelFollows : Type 0
OneChannelFollows = (policy : Policy) (list : List Occurrence) → CarriesOne policy list → ObjectsFollowNow policy list

-- What a server heard over its links spells what the PDUs spell that moved on them, link after link, and on a link channel after channel: of a host that gives
-- nothing up.
abbrev pub HostsReadFollowing : Type 0
HostsReadFollowing = (settings : Settings) (content : Option Contents) (party : Party) (asks : Asks (server_profile settings content)) (talk : List Talk) (now : Host ServerProfile) (so : TalksOverLinks (server_profile settings content) asks talk now)
    → StatesFrame (policy settings true) party → party.packet ≡ own_maximum L2cap settings
    → AllByRecursion IsDirect (served settings content asks (flat_map talk_marks talk) now so.lives)
    → AllByRecursion (λ (span : Span). ObjectsFollowed (policy settings true) span.event span.list) so.lives.spans → ObjectsFollowNow (policy settings true) so.lives.now
    → AllByRecursion (GivesNothingUp (policy settings true)) (on_links (server_profile settings content) asks (flat_map talk_marks talk) now so.lives)
    → gains.objects settings (served settings content asks (flat_map talk_marks talk) now so.lives) ≡ flat_map (λ part. objects party (moved_in part)) (parts talk)

-- At each moment of a run of turns the inbox of such a host has gained exactly these objects: where no call of the inbox fails and no request is ignored.
abbrev pub HostsGainFollowing : Type 0
HostsGainFollowing = (settings : Settings) (before : List Object) (party : Party) →
    let content : Option Contents = Some (record { stored = before; pending = None }) in
    (asks : Asks (server_profile settings content)) (talk : List Talk) (now : Host ServerProfile) (so : TalksOverLinks (server_profile settings content) asks talk now)
    → StatesFrame (policy settings true) party → party.packet ≡ own_maximum L2cap settings
    → AllMayCome settings [] (push.begun settings content) (served settings content asks (flat_map talk_marks talk) now so.lives)
    → AllByRecursion IsDirect (served settings content asks (flat_map talk_marks talk) now so.lives)
    → AllByRecursion (λ (span : Span). ObjectsFollowed (policy settings true) span.event span.list) so.lives.spans → ObjectsFollowNow (policy settings true) so.lives.now
    → AllByRecursion (GivesNothingUp (policy settings true)) (on_links (server_profile settings content) asks (flat_map talk_marks talk) now so.lives)
    → stored_in now.profile.inbox.content ≡ Some (before ++ flat_map (λ part. objects party (moved_in part)) (parts talk))
