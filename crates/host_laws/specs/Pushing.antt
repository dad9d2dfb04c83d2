-- What the client of a host does and what happens to it, while its profile goes through what it does (Object Push Profile 1.2, 4.3).
use Rattle.std.specs.Prelude.{ℕ, ◌≡◌, List, [], ◌∷◌, ◌++◌, map, Option, Some, None, Result, Ok, false, if◌then◌else◌}
use Rattle.std.specs.List.{filter_map}
use Rattle.shelf_model.specs.bt_base.specs.declared.ports.PortFault.{PortFault}
use Rattle.shelf_model.specs.bt_base.specs.declared.settings.Settings.{Settings}
use Rattle.shelf_model.specs.bt_base.specs.declared.settings.Transport.TheVariants.{L2cap}
use Rattle.channel_laws.specs.channel_model.specs.declared.event.ChannelEvent.{ChannelEvent}
use Rattle.channel_laws.specs.channel_model.specs.declared.event.ChannelEvent.TheVariants as channels
use Rattle.channel_laws.specs.channel_model.specs.Calls.{peer_mtu, waits}
use Rattle.channel_laws.specs.Runs.{Occurrence, Comes, Connects, AsksFeatures, Disconnects, Sends, Gives, Fires, Tells}
use Rattle.channel_laws.specs.channel_model.specs.Value.{Channels}
use Rattle.push_laws.specs.push_model.specs.declared.closing.CloseCause.{CloseCause}
use Rattle.push_laws.specs.push_model.specs.Client.{Client, new_client, begins, cancelled}
use Rattle.push_laws.specs.push_model.specs.Events as events
use Rattle.push_laws.specs.push_model.specs.Events.{hears_news}
use Rattle.push_laws.specs.push_model.specs.Laws.{Deed, Hears, Asks, Finishes, Cancels, done}
use Rattle.push_laws.specs.push_model.specs.Steps.{Part, Step, Wait, MakeLink, AskFeatures, OpenChannel, SendSdu, CloseChannel, BreakLink, Ended, NoMemory, steps}
use Rattle.push_laws.specs.Opening.{way_by, psm_opened, AreTwoAtMost}
use Rattle.shelf_model.specs.world_model.specs.Machines.{News, Linked, Up, Down, Failed, Heard, TimerFired, Cancelled, Opening}
use Rattle.shelf_model.specs.host_model.specs.Circumstances.{Circumstance}
use Rattle.shelf_model.specs.host_model.specs.Clients.{ClientProfile, cause_of, ended, client_profile, fitted}
use Rattle.shelf_model.specs.host_model.specs.Hosts.{Host}
use Rattle.shelf_model.specs.host_model.specs.Shelves.{size_for, name_for}
use Rattle.host_laws.specs.Calls as asking
use Rattle.host_laws.specs.Calls.{HostsAsk}
use Rattle.host_laws.specs.Feeds.{Feed, Gifts, Learns, Receives, Happens, Sent, Steps, fed}
use Rattle.host_laws.specs.Lives.{Mark, Lives, all_asked}

-- ---- over several pushes

-- a push begins, with what the shelf says of the object's size; or what may happen to a client within a push
pub data Affair : Type 0 where
  Begins : (size : Result ℕ PortFault) (name : List ℕ) → Affair
  Does : (deed : Deed) → Affair

abbrev pub client_after : Affair → Client → Client
client_after (Begins size name) client = begins size name client
client_after (Does deed) client = done deed client

abbrev pub client_behind : List Affair → Client → Client
client_behind [] client = client
client_behind (one ∷ rest) client = client_behind rest (client_after one client)

-- so it is of each thing that happens to the client
abbrev pub AllAsked : (Affair → Client → Type 0) → List Affair → Client → Type 0
AllAsked Is [] client = Unit {0}
AllAsked Is (one ∷ rest) client = Is one client × AllAsked Is rest (client_after one client)

-- ---- one thing

-- a push that is over is asked for its end at once
abbrev pub end_asked : Step → List Affair
end_asked Wait = []
end_asked MakeLink = []
end_asked AskFeatures = []
end_asked (OpenChannel psm) = []
end_asked (SendSdu psm payload) = []
end_asked (CloseChannel psm) = []
end_asked BreakLink = []
end_asked (Ended outcome) = Does (Asks []) ∷ []
end_asked NoMemory = []

abbrev pub then_ends : Client → List Affair
then_ends client = end_asked (steps client []).step

-- and one that begins is asked for its link
abbrev pub link_asked : Step → List Affair
link_asked Wait = []
link_asked MakeLink = Does (Asks []) ∷ Does Finishes ∷ []
link_asked AskFeatures = []
link_asked (OpenChannel psm) = []
link_asked (SendSdu psm payload) = []
link_asked (CloseChannel psm) = []
link_asked BreakLink = []
link_asked (Ended outcome) = []
link_asked NoMemory = []

abbrev pub then_calls : Client → List Affair
then_calls client = link_asked (steps client []).step

abbrev pub news_pushed : List Circumstance → News → Client → List Affair
news_pushed circumstances (Linked Up) client = Does (Hears events.LinkUp) ∷ []
news_pushed circumstances (Linked (Down reason)) client = Does (Hears (events.LinkDown reason)) ∷ then_ends (hears_news (events.LinkDown reason) client)
news_pushed circumstances (Failed status) client = Does (Hears (events.LinkFailed status)) ∷ then_ends (hears_news (events.LinkFailed status) client)
news_pushed circumstances (Heard pdu) client = []
news_pushed circumstances TimerFired client = Does (Hears events.Timer) ∷ []
news_pushed circumstances Cancelled client = Does Cancels ∷ then_ends (cancelled client)
news_pushed circumstances (Opening name) client =
    let begun : Client = begins (size_for circumstances name) (name_for name) client in Begins (size_for circumstances name) (name_for name) ∷ (then_ends begun ++ then_calls (ended begun))

abbrev pub opened_pushed : Option ℕ → ℕ → List Affair
opened_pushed None psm = []
opened_pushed (Some mtu) psm = Does (Hears (events.ChannelOpen psm mtu)) ∷ []

abbrev pub closed_pushed : Option CloseCause → ℕ → List Affair
closed_pushed None psm = []
closed_pushed (Some cause) psm = Does (Hears (events.ChannelClosed psm cause)) ∷ []

abbrev pub event_pushed : ChannelEvent → Channels → List Affair
event_pushed (channels.Opened own psm) v = opened_pushed (peer_mtu own v) psm
event_pushed (channels.Closed own psm reason) v = closed_pushed (cause_of reason) psm
event_pushed (channels.Features features) v = Does (Hears events.FeaturesTold) ∷ []
event_pushed channels.FeaturesLost v = Does (Hears events.FeaturesLost) ∷ []
event_pushed (channels.DisconnectLost own) v = []

-- an SDU is sent once it waits no longer in its channel
abbrev pub sent_pushed : Option ℕ → Channels → List Affair
sent_pushed None v = []
sent_pushed (Some own) v = if waits own v then [] else Does Finishes ∷ []

-- a step; a link is asked for as the push begins, and not here
abbrev pub step_pushed : Step → List Part → List Affair
step_pushed Wait parts = Does (Asks parts) ∷ []
step_pushed MakeLink parts = []
step_pushed AskFeatures parts = Does (Asks parts) ∷ Does Finishes ∷ []
step_pushed (OpenChannel psm) parts = Does (Asks parts) ∷ Does Finishes ∷ []
step_pushed (SendSdu psm payload) parts = Does (Asks parts) ∷ []
step_pushed (CloseChannel psm) parts = Does (Asks parts) ∷ Does Finishes ∷ []
step_pushed BreakLink parts = Does (Asks parts) ∷ Does Finishes ∷ []
step_pushed (Ended outcome) parts = Does (Asks parts) ∷ []
step_pushed NoMemory parts = Does (Asks parts) ∷ []

abbrev pub pushed_with : ClientProfile → Feed → List Affair
pushed_with pushing (Gifts circumstances) = []
pushed_with pushing (Learns circumstances news) = news_pushed circumstances news pushing.client
pushed_with pushing (Receives own psm sdu) = Does (Hears (events.Sdu psm sdu)) ∷ []
pushed_with pushing (Happens event v) = event_pushed event v
pushed_with pushing (Sent v) = sent_pushed pushing.submitted v
pushed_with pushing (Steps v) = step_pushed (steps pushing.client (fitted pushing)).step (fitted pushing)

-- ---- all of it

abbrev pub pushed_from : Settings → ClientProfile → List Feed → List Affair
pushed_from settings pushing [] = []
pushed_from settings pushing (feed ∷ feeds) = pushed_with pushing feed ++ pushed_from settings (fed (client_profile settings) pushing feed) feeds

-- what happened to the client of a host, from its first moment on
abbrev pub pushed : (settings : Settings) (asks : asking.Asks (client_profile settings)) (marks : List Mark) (host : Host ClientProfile) → Lives (client_profile settings) asks marks host → List Affair
pushed settings asks marks host lives = pushed_from settings (client_profile settings).first lives.feeds

-- Whatever a host hears and says over all its links: its client is what it is of what happened to it.
abbrev pub ClientsArePushed : Type 0
ClientsArePushed = (settings : Settings) (asks : asking.Asks (client_profile settings)) (marks : List Mark) (host : Host ClientProfile) (lives : Lives (client_profile settings) asks marks host)
    → host.profile.client ≡ client_behind (pushed settings asks marks host lives) (new_client settings)

-- ---- which channels it opens

abbrev pub opened_with : Affair → Client → List ℕ
opened_with (Begins size name) client = []
opened_with (Does deed) client = filter_map psm_opened (way_by deed client)

abbrev pub opened_from : List Affair → Client → List ℕ
opened_from [] client = []
opened_from (one ∷ rest) client = opened_with one client ++ opened_from rest (client_after one client)

abbrev pub psm_asked : Occurrence → Option ℕ
psm_asked (Comes pdu) = None
psm_asked (Connects psm) = Some psm
psm_asked AsksFeatures = None
psm_asked (Disconnects own) = None
psm_asked (Sends own sdu) = None
psm_asked (Gives pdu) = None
psm_asked Fires = None
psm_asked Tells = None

-- The channels that the profile of a client asks for over all its links are those that its client opens, in their order; and in each push
-- over L2CAP it opens two at most.
pub record ClientsOpen : Type 0 where
  pub asks : HostsAsk
  pub opened : (settings : Settings) (marks : List Mark) (host : Host ClientProfile) (lives : Lives (client_profile settings) (asks.clients settings) marks host)
      → filter_map psm_asked (all_asked lives.spans lives.now) ≡ opened_from (pushed settings (asks.clients settings) marks host lives) (new_client settings)
  pub by_push : (client : Client) (name : List ℕ) (size : ℕ) (deeds : List Deed) → client.failed ≡ false → client.transport ≡ L2cap → AreTwoAtMost (opened_from (Begins (Ok size) name ∷ map Does deeds) client)
