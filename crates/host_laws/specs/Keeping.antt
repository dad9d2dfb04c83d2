-- What hosts give up they are told; and servers that give up no request while their link goes on, and wait for no services (Core 5.1, Volume 3
-- Part A, 4.6 and 6.2; Part B, 4.2).
use Rattle.std.specs.Prelude.{◌≡◌, Bool, true, false, List, [], Option, Some, None}
use Rattle.std.specs.List.{AllByRecursion, list_any}
use Rattle.shelf_model.specs.bt_base.specs.declared.settings.Settings.{Settings}
use Rattle.shelf_model.specs.bt_base.specs.Objects.{Contents}
use Rattle.shelf_model.specs.capture.specs.Histories.{EachAfter}
use Rattle.push_laws.specs.link_talk.specs.declared.party.Party.{Party}
use Rattle.channel_laws.specs.channel_model.specs.declared.event.ChannelEvent.{ChannelEvent}
use Rattle.channel_laws.specs.channel_model.specs.declared.event.ChannelEvent.TheVariants.{Opened, Closed, Features, FeaturesLost, DisconnectLost}
use Rattle.channel_laws.specs.channel_model.specs.declared.event.CloseReason.{CloseReason}
use Rattle.channel_laws.specs.channel_model.specs.declared.event.CloseReason.TheVariants.{PeerClosed, Refused, NoAgreement, RetryLimit, Ertm, LinkDown, OwnClosed}
use Rattle.channel_laws.specs.channel_model.specs.Changing.{held_at}
use Rattle.channel_laws.specs.channel_model.specs.Policies.{Policy, policy}
use Rattle.channel_laws.specs.channel_model.specs.Value.{Stage, Requested, Connected, Leaving, Closing, Crossed, Held, Channels}
use Rattle.channel_laws.specs.Frames.{AreUttered}
use Rattle.channel_laws.specs.Runs.{Occurrence, Comes, Connects, AsksFeatures, Disconnects, Sends, Gives, Fires, Tells, run_of, arisen}
use Rattle.channel_laws.specs.Sdus.{StatesFrame}
use Rattle.push_laws.specs.push_model.specs.Server.{Lent, lends, lent_sdu}
use Rattle.shelf_model.specs.host_model.specs.Hosts.{Host}
use Rattle.shelf_model.specs.host_model.specs.Pdus.{sdu_of}
use Rattle.shelf_model.specs.host_model.specs.Clients.{ClientProfile, client_profile}
use Rattle.shelf_model.specs.host_model.specs.Servers.{ServerProfile, server_profile}
use Rattle.host_laws.specs.Armed.{AwaitsServices}
use Rattle.host_laws.specs.Calls.{Call, Connect, AskFeatures, Disconnect, Send, Asks, HostsAsk}
use Rattle.host_laws.specs.Leaving.{is_off}
use Rattle.host_laws.specs.Lives.{Mark, Lives, on_links}
use Rattle.host_laws.specs.Seen.{spoken_of}
use Rattle.host_laws.specs.Woven.{Woven}

-- in all that happened on a link its channels gave up no request
abbrev pub GivesNothingUp : Policy → List Occurrence → Type 0
GivesNothingUp policy list = spoken_of (run_of policy list).said ≡ (run_of policy list).said

-- ---- what is told

-- a request was given as often as may be
abbrev pub is_retry_limit : CloseReason → Bool
is_retry_limit PeerClosed = false
is_retry_limit (Refused answer) = false
is_retry_limit NoAgreement = false
is_retry_limit RetryLimit = true
is_retry_limit (Ertm reason) = false
is_retry_limit LinkDown = false
is_retry_limit OwnClosed = false

-- a channel was closed for that, or features never came, or the answer to the request for the end of a channel that was closed
abbrev pub is_loss : ChannelEvent → Bool
is_loss (Opened own psm) = false
is_loss (Closed own psm reason) = is_retry_limit reason
is_loss (Features features) = false
is_loss FeaturesLost = true
is_loss (DisconnectLost own) = true

-- that answer alone
abbrev pub is_end_lost : ChannelEvent → Bool
is_end_lost (Opened own psm) = false
is_end_lost (Closed own psm reason) = false
is_end_lost (Features features) = false
is_end_lost FeaturesLost = false
is_end_lost (DisconnectLost own) = true

-- ---- a request that is taken back

-- the channel is not only asked for
abbrev pub IsMoreThanAsked : Stage → Type 0
IsMoreThanAsked (Requested request) = ⊥
IsMoreThanAsked (Connected peer setup) = Unit {0}
IsMoreThanAsked (Leaving peer setup request) = Unit {0}
IsMoreThanAsked (Closing peer request checked) = Unit {0}
IsMoreThanAsked (Crossed peer request) = Unit {0}

abbrev pub IsThere : Option Held → Type 0
IsThere None = Unit {0}
IsThere (Some held) = IsMoreThanAsked held.stage

-- the host asks for the end of no channel that is only asked for
abbrev pub TakesNoneBack : Occurrence → Channels → Type 0
TakesNoneBack (Comes pdu) v = Unit {0}
TakesNoneBack (Connects psm) v = Unit {0}
TakesNoneBack AsksFeatures v = Unit {0}
TakesNoneBack (Disconnects own) v = IsThere (held_at own v)
TakesNoneBack (Sends own sdu) v = Unit {0}
TakesNoneBack (Gives pdu) v = Unit {0}
TakesNoneBack Fires v = Unit {0}
TakesNoneBack Tells v = Unit {0}

-- Whatever happens: where no request was taken back, and no loss arose that its host is told, it gave nothing up.
abbrev pub LossesAreTold : Type 0
LossesAreTold = (policy : Policy) (list : List Occurrence) → EachAfter (λ front one. TakesNoneBack one (run_of policy front).value) [] list → list_any is_loss (arisen (run_of policy list)) ≡ false → GivesNothingUp policy list

-- ---- what a server asks of its channels

-- that the SDU is sent which it lends
abbrev pub IsLent : ServerProfile → Call → Type 0
IsLent serving (Connect psm) = ⊥
IsLent serving AskFeatures = ⊥
IsLent serving (Disconnect own) = ⊥
IsLent serving (Send own sdu) = (lent : Lent) × (lent_sdu (lends serving.server) ≡ Some lent) × (sdu ≡ sdu_of lent.payload)

-- and nothing else
abbrev pub SendsAsItLends : (settings : Settings) (content : Option Contents) → Asks (server_profile settings content) → Type 0
SendsAsItLends settings content asks = (v : Channels) (serving : ServerProfile) (call : Call) → asks.call v serving ≡ Some call → IsLent serving call

-- so it is of servers
pub record ServersSendAsTheyLend : Type 0 where
  pub asks : HostsAsk
  pub sends : (settings : Settings) (content : Option Contents) → SendsAsItLends settings content (asks.servers settings content)

-- ---- the laws

-- On none of its links it asks for a channel, for its peer's features, or for the end of a channel: what requests it makes follow from those of its peer, and
-- from what fails.
abbrev pub AsksForNothing : Occurrence → Type 0
AsksForNothing (Comes pdu) = Unit {0}
AsksForNothing (Connects psm) = ⊥
AsksForNothing AsksFeatures = ⊥
AsksForNothing (Disconnects own) = ⊥
AsksForNothing (Sends own sdu) = Unit {0}
AsksForNothing (Gives pdu) = Unit {0}
AsksForNothing Fires = Unit {0}
AsksForNothing Tells = Unit {0}

abbrev pub ServersAskForNothing : Type 0
ServersAskForNothing = (settings : Settings) (content : Option Contents) (asks : Asks (server_profile settings content)) (marks : List Mark) (host : Host ServerProfile) (lives : Lives (server_profile settings content) asks marks host)
    → SendsAsItLends settings content asks → AllByRecursion (AllByRecursion AsksForNothing) (on_links (server_profile settings content) asks marks host lives)

-- What a server gives up is the end of a channel that it closed, and then it ends its link: so where it does not, it gave up nothing.
abbrev pub ServersKeepOn : Type 0
ServersKeepOn = (settings : Settings) (content : Option Contents) (asks : Asks (server_profile settings content)) (marks : List Mark) (host : Host ServerProfile) (lives : Lives (server_profile settings content) asks marks host)
    → SendsAsItLends settings content asks → host.profile.breaks ≡ false → GivesNothingUp (policy settings true) lives.now

-- No SDU that it lends is a request for services, so it waits for none, and by its own talk none waits.
abbrev pub ServersAwaitNothing : Type 0
ServersAwaitNothing = (settings : Settings) (content : Option Contents) (party : Party) (asks : Asks (server_profile settings content)) (marks : List Mark) (host : Host ServerProfile) (lives : Lives (server_profile settings content) asks marks host)
    → StatesFrame (policy settings true) party → AreUttered (policy settings true) lives.now → SendsAsItLends settings content asks → AwaitsServices (server_profile settings content) party host lives.now

-- ---- clients

-- A client that gave up a request of its link ends its link, or has none: so where a push of it goes on over its link, and nothing is left to
-- be told, it gave nothing up.
abbrev pub ClientsKeepOn : Type 0
ClientsKeepOn = (settings : Settings) (asks : Asks (client_profile settings)) (list : List Occurrence) (first last : ClientProfile) → Woven (client_profile settings) asks list first last → (run_of (policy settings false) list).value.events ≡ []
    → is_off last.client.stage ≡ false → GivesNothingUp (policy settings false) list
