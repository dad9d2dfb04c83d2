-- What a profile is told on a link, as its host's own talk is read (Core 5.1, Volume 3 Part A, 3.1, 3.3 and 4).
use Rattle.std.specs.Prelude.{ℕ, ◌≡◌, ◌==◌, true, false, List, [], ◌++◌, Option, Some, None, if◌then◌else◌}
use Rattle.std.specs.List.{AllByRecursion, filter_map}
use Rattle.shelf_model.specs.capture.specs.declared.flow.Flow.TheVariants.{Into}
use Rattle.push_laws.specs.link_talk.specs.declared.channel.Channel.{Channel}
use Rattle.push_laws.specs.link_talk.specs.declared.party.Party.{Party}
use Rattle.push_laws.specs.link_talk.specs.Sayings.{Saying}
use Rattle.push_laws.specs.link_talk.specs.Channels.{Entry, is_alive, reading}
use Rattle.push_laws.specs.link_talk.specs.Sdus.{sdus}
use Rattle.push_laws.specs.link_talk.specs.Waits.{has_check_word}
use Rattle.channel_laws.specs.channel_model.specs.declared.event.ChannelEvent.{ChannelEvent}
use Rattle.channel_laws.specs.channel_model.specs.Value.{no_channels}
use Rattle.channel_laws.specs.channel_model.specs.Policies.{Policy}
use Rattle.channel_laws.specs.channel_model.specs.Telling.{is_told_closed, is_told_broken}
use Rattle.channel_laws.specs.Runs.{Occurrence, run_of}
use Rattle.channel_laws.specs.Views.{channel_by, read_at}
use Rattle.channel_laws.specs.Endings.{HasEnded}
use Rattle.channel_laws.specs.Sdus.{StatesFrame, IsHandedUp}
use Rattle.channel_laws.specs.Endpoints.{IsOf}
use Rattle.shelf_model.specs.host_model.specs.Profiles.{Profile}
use Rattle.shelf_model.specs.host_model.specs.Hosts.{Host}
use Rattle.shelf_model.specs.host_model.specs.Machines.{upper}
use Rattle.host_laws.specs.Calls.{Asks}
use Rattle.host_laws.specs.Feeds.{Tiding, Brings, Tells, Turns, tidings_from}
use Rattle.host_laws.specs.Lives.{Mark, Lives, on_links}

-- ---- of what was told

abbrev pub event_told : Tiding → Option ChannelEvent
event_told (Brings own psm sdu) = None
event_told (Tells event) = Some event
event_told (Turns event) = None

-- what happened to channels
abbrev pub events_told : List Tiding → List ChannelEvent
events_told tidings = filter_map event_told tidings

abbrev pub sdu_told : ℕ → Tiding → Option (List ℕ)
sdu_told own (Brings other psm sdu) = if other == own then Some sdu else None
sdu_told own (Tells event) = None
sdu_told own (Turns event) = None

-- the SDUs of an own endpoint
abbrev pub sdus_told : ℕ → List Tiding → List (List ℕ)
sdus_told own tidings = filter_map (sdu_told own) tidings

-- ---- as it is read

-- a channel is read that its host has closed, or none
abbrev pub IsEnded : Option Entry → Type 0
IsEnded None = Unit {0}
IsEnded (Some entry) = is_alive entry.life ≡ false

-- an SDU is of the channel that is read at its endpoint, and has its PSM
abbrev pub IsOfChannel : List Entry → Tiding → Type 0
IsOfChannel entries (Brings own psm sdu) = (peer : ℕ) × IsOf (channel_by psm own peer) (read_at own entries)
IsOfChannel entries (Tells event) = Unit {0}
IsOfChannel entries (Turns event) = Unit {0}

-- a host's own talk, and what its profile was told
pub record IsTold (said : List Saying) (tidings : List Tiding) : Type 0 where
  -- each SDU is of a channel that is read, and none comes behind the end of its channel
  pub channels_are : AllByRecursion (IsOfChannel (reading said).entries) tidings
  pub ends_are_last : (own : ℕ) (before after : List Tiding) → tidings ≡ before ++ after → is_told_closed own (events_told before) ≡ true → sdus_told own after ≡ []
  -- a channel whose end was told is read as one that its host has closed
  pub ended : (own : ℕ) → is_told_closed own (events_told tidings) ≡ true → IsEnded (read_at own (reading said).entries)

-- the SDUs of each channel are those that are read; where its machine closed it, the PDU for which it did so may bring one more
abbrev pub SdusAreTold : Party → (said : List Saying) (tidings : List Tiding) → Type 0
SdusAreTold party said tidings =
    (channel : Channel) → IsHandedUp (is_told_broken channel.own (events_told tidings)) (sdus_told channel.own tidings) (sdus party channel Into said)

-- and a channel that is read as ended for its host was told to have ended
abbrev pub EndsAreToldIn : (said : List Saying) (tidings : List Tiding) → Type 0
EndsAreToldIn said tidings = (own : ℕ) → HasEnded (read_at own (reading said).entries) → is_told_closed own (events_told tidings) ≡ true

-- ---- the laws

-- what channels tell with all that happened to them on a link
abbrev pub told_on : Policy → List Occurrence → List Tiding
told_on policy list = tidings_from policy no_channels list

abbrev pub IsToldOn : Policy → List Occurrence → Type 0
IsToldOn policy list = IsTold (run_of policy list).said (told_on policy list)

abbrev pub SdusAreToldOn : Policy → Party → List Occurrence → Type 0
SdusAreToldOn policy party list = SdusAreTold party (run_of policy list).said (told_on policy list)

abbrev pub EndsAreToldOn : Policy → List Occurrence → Type 0
EndsAreToldOn policy list = EndsAreToldIn (run_of policy list).said (told_on policy list)

-- What the profile of a host is told on each of its links.
abbrev pub ProfilesAreTold : {P : Type 0} → Profile P → Type 0
ProfilesAreTold {P} A = (asks : Asks A) (marks : List Mark) (host : Host P) (lives : Lives A asks marks host) → AllByRecursion (IsToldOn A.policy) (on_links A asks marks host lives)

abbrev pub AllSdusAreTold : {P : Type 0} → Profile P → Type 0
AllSdusAreTold {P} A =
    (party : Party) (asks : Asks A) (marks : List Mark) (host : Host P) (lives : Lives A asks marks host) → StatesFrame A.policy party
    → AllByRecursion (SdusAreToldOn A.policy party) (on_links A asks marks host lives)

abbrev pub AllEndsAreTold : {P : Type 0} → Profile P → Type 0
AllEndsAreTold {P} A = (asks : Asks A) (marks : List Mark) (host : Host P) (lives : Lives A asks marks host) → AllByRecursion (EndsAreToldOn A.policy) (on_links A asks marks host lives)

-- A host looks for a check word at an endpoint where its own talk says that there is one.
abbrev pub ChecksAreRead : {P : Type 0} → Profile P → Type 0
ChecksAreRead {P} A = (asks : Asks A) (marks : List Mark) (host : Host P) (lives : Lives A asks marks host) (own : ℕ)
    → (upper A).has_check host own ≡ has_check_word (run_of A.policy lives.now).said own
