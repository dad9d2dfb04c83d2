-- What happens to the server of a host while its profile goes through what it does (Object Push Profile 1.2, 4.3).
use Rattle.std.specs.Prelude.{ℕ, ◌≡◌, List, [], ◌∷◌, ◌++◌, Option, Some, None, if◌then◌else◌}
use Rattle.shelf_model.specs.bt_base.specs.declared.settings.Settings.{Settings}
use Rattle.shelf_model.specs.bt_base.specs.Objects.{Object, Contents}
use Rattle.channel_laws.specs.channel_model.specs.declared.event.ChannelEvent.{ChannelEvent}
use Rattle.channel_laws.specs.channel_model.specs.declared.event.ChannelEvent.TheVariants as events
use Rattle.channel_laws.specs.channel_model.specs.Value.{Channels}
use Rattle.push_laws.specs.push_model.specs.Server.{Reacted, Lent, lends, lent_sdu}
use Rattle.push_laws.specs.Occurrences.{Occurrence, Came, Went, Closed, LinkDown, Asked, Answering, all_done, begun}
use Rattle.push_laws.specs.Gains.{objects}
use Rattle.push_laws.specs.Premises.{AllMayCome}
use Rattle.push_laws.specs.Laws.{stored_in}
use Rattle.shelf_model.specs.world_model.specs.Machines.{News, Linked, Up, Down, Failed, Heard, TimerFired, Cancelled, Opening}
use Rattle.shelf_model.specs.host_model.specs.Circumstances.{answers_in}
use Rattle.shelf_model.specs.host_model.specs.Endpoints.{endpoint_of, takes_sdu}
use Rattle.shelf_model.specs.host_model.specs.Pdus.{sdu_of}
use Rattle.shelf_model.specs.host_model.specs.Hosts.{Host}
use Rattle.shelf_model.specs.host_model.specs.Servers.{ServerProfile, is_told, server_profile}
use Rattle.host_laws.specs.Calls.{Asks}
use Rattle.host_laws.specs.Feeds.{Feed, Gifts, Learns, Receives, Happens, Sent, Steps, fed}
use Rattle.host_laws.specs.Lives.{Mark, Lives}

-- ---- one thing

abbrev pub news_served : News → List Occurrence
news_served (Linked Up) = []
news_served (Linked (Down reason)) = LinkDown ∷ []
news_served (Failed status) = []
news_served (Heard pdu) = []
news_served TimerFired = []
news_served Cancelled = []
news_served (Opening name) = []

-- a channel that goes down with its link is closed by that
abbrev pub event_served : ChannelEvent → List Occurrence
event_served (events.Opened own psm) = []
event_served (events.Closed own psm reason) = if is_told reason then Closed psm ∷ [] else []
event_served (events.Features features) = []
event_served events.FeaturesLost = []
event_served (events.DisconnectLost own) = []

-- what the server lends goes out where its channel takes it
abbrev pub taken_by : Option ℕ → Lent → Channels → List Occurrence
taken_by None lent v = []
taken_by (Some own) lent v = if takes_sdu own (sdu_of lent.payload) v then Went lent.psm (sdu_of lent.payload) ∷ [] else []

abbrev pub lent_by : Option Lent → Channels → ServerProfile → List Occurrence
lent_by None v serving = []
lent_by (Some lent) v serving = taken_by (endpoint_of lent.psm serving.endpoints) lent v

abbrev pub served_with : ServerProfile → Feed → List Occurrence
served_with serving (Gifts circumstances) = Answering (answers_in circumstances) ∷ []
served_with serving (Learns circumstances news) = news_served news
served_with serving (Receives own psm sdu) = Came psm sdu ∷ []
served_with serving (Happens event v) = event_served event
served_with serving (Sent v) = []
served_with serving (Steps v) = Asked ∷ lent_by (lent_sdu (lends serving.server)) v serving

-- ---- all of it

abbrev pub served_from : Settings → Option Contents → ServerProfile → List Feed → List Occurrence
served_from settings content serving [] = []
served_from settings content serving (feed ∷ feeds) = served_with serving feed ++ served_from settings content (fed (server_profile settings content) serving feed) feeds

-- what happened to the server of a host, from its first moment on
abbrev pub served : (settings : Settings) (content : Option Contents) (asks : Asks (server_profile settings content)) (marks : List Mark) (host : Host ServerProfile) → Lives (server_profile settings content) asks marks host → List Occurrence
served settings content asks marks host lives = served_from settings content (server_profile settings content).first lives.feeds

abbrev pub reacted : ServerProfile → Reacted
reacted serving = record { server = serving.server; gift = serving.inbox }

-- ---- the laws

-- Whatever a host hears and says over all its links: its server and its inbox are what they are of what happened to them.
abbrev pub ServersAreServed : Type 0
ServersAreServed = (settings : Settings) (content : Option Contents) (asks : Asks (server_profile settings content)) (marks : List Mark) (host : Host ServerProfile) (lives : Lives (server_profile settings content) asks marks host)
    → reacted host.profile ≡ all_done (served settings content asks marks host lives) (begun settings content)

-- So the inbox of a host gains exactly the objects that the packets spell which its server was told: where no call of the inbox fails, no
-- request is ignored, and at most one transport has an object under way.
abbrev pub HostsGain : Type 0
HostsGain = (settings : Settings) (before : List Object) →
    let content : Option Contents = Some (record { stored = before; pending = None }) in
    (asks : Asks (server_profile settings content)) (marks : List Mark) (host : Host ServerProfile) (lives : Lives (server_profile settings content) asks marks host)
    → AllMayCome settings [] (begun settings content) (served settings content asks marks host lives)
    → stored_in host.profile.inbox.content ≡ Some (before ++ objects settings (served settings content asks marks host lives))
