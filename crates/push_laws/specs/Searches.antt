-- A client and a server of Object Push on the channel to the service records: what the client hears of the service is what the server's
-- record names, and the channel that it opens for its object is that one (Core 5.1, Volume 3 Part B, 4.7; Object Push Profile 1.2, 5).
use Rattle.std.specs.Prelude.{ℕ, ◌≡◌, ◌==◌, ◌≤◌, ◌<◌, ◌^◌, ◌⊎◌, false, Option, List, [], ◌∷◌, ◌++◌, length, if◌then◌else◌}
use Rattle.std.specs.List.{All, AllByRecursion, Contains}
use Rattle.link_talk.specs.bt_base.specs.Objects.{Contents, Object as Stored}
use Rattle.link_talk.specs.bt_base.specs.declared.settings.Settings.{Settings}
use Rattle.link_talk.specs.bt_base.specs.declared.settings.Transport.TheVariants.{Rfcomm}
use Rattle.push_model.specs.obex_session.specs.InboxCalls.{Answer}
use Rattle.push_model.specs.obex_session.specs.PutPackets.{units_in}
use Rattle.push_model.specs.rfcomm_frames.specs.declared.connection.Role.TheVariants.{Initiator}
use Rattle.push_model.specs.sdp_client.specs.Laws.{served_target}
use Rattle.push_model.specs.Client.{Client, new_client, with_object}
use Rattle.push_model.specs.Events.{News, LinkUp, LinkFailed, ChannelOpen, ChannelClosed, Sdu, FeaturesTold, FeaturesLost, Timer, search_psm}
use Rattle.push_model.specs.Events as news
use Rattle.push_model.specs.Laws.{Deed, Hears, Asks, Finishes, Cancels, all_done}
use Rattle.push_model.specs.Server.{Reacted, object_psm}
use Rattle.push_model.specs.Steps.{Step, Wait, MakeLink, AskFeatures, OpenChannel, SendSdu, CloseChannel, BreakLink, Ended, NoMemory, steps}
use Rattle.push_laws.specs.Carriage.{no_carriage, StayCarried}
use Rattle.push_laws.specs.Laws.{new_over}
use Rattle.push_laws.specs.Occurrences.{Occurrence, Came, Went, Closed, LinkDown, Asked, Answering, begun, done, IsOwn}
use Rattle.push_laws.specs.Opening.{targets_heard, way_taken, whole_way}
use Rattle.push_laws.specs.Parties.{Move, OfServer, OfClient, client_side, client_after, sdu_if, Push, begun_of, over_pushes}
use Rattle.push_laws.specs.Premises.{AllGranted, NoneShort, AnswersAre, AllMayCome, AllMayFail}
use Rattle.push_laws.specs.Sending.{octets_in, AllAnswer}

-- ---- a channel, as each of them has it

-- on a channel to a PSM, the SDUs that the client sent, those that came to the server, those that went from it and those that came to the client
pub record Traffic : Type 0 where
  pub sent : List (List ℕ)
  pub come : List (List ℕ)
  pub gone : List (List ℕ)
  pub told : List (List ℕ)

abbrev pub no_traffic : Traffic
no_traffic = record { sent = []; come = []; gone = []; told = [] }

-- the SDU of a step
abbrev pub sdus_on : ℕ → Step → List (List ℕ)
sdus_on psm Wait = []
sdus_on psm MakeLink = []
sdus_on psm AskFeatures = []
sdus_on psm (OpenChannel at) = []
sdus_on psm (SendSdu at payload) = if at == psm then octets_in payload else []
sdus_on psm (CloseChannel at) = []
sdus_on psm BreakLink = []
sdus_on psm (Ended outcome) = []
sdus_on psm NoMemory = []

abbrev pub sent_on : ℕ → Deed → Client → List (List ℕ)
sent_on psm (Hears news) client = []
sent_on psm (Asks parts) client = sdus_on psm (steps client parts).step
sent_on psm Finishes client = []
sent_on psm Cancels client = []

abbrev pub told_on : ℕ → News → List (List ℕ)
told_on psm LinkUp = []
told_on psm (news.LinkDown reason) = []
told_on psm (LinkFailed status) = []
told_on psm (ChannelOpen at mtu) = []
told_on psm (ChannelClosed at cause) = []
told_on psm (Sdu at octets) = sdu_if (at == psm) octets
told_on psm FeaturesTold = []
told_on psm FeaturesLost = []
told_on psm Timer = []

abbrev pub heard_on : ℕ → Deed → List (List ℕ)
heard_on psm (Hears news) = told_on psm news
heard_on psm (Asks parts) = []
heard_on psm Finishes = []
heard_on psm Cancels = []

abbrev pub come_on : ℕ → Occurrence → List (List ℕ)
come_on psm (Came at sdu) = sdu_if (at == psm) sdu
come_on psm (Went at sdu) = []
come_on psm (Closed at) = []
come_on psm LinkDown = []
come_on psm Asked = []
come_on psm (Answering answers) = []

abbrev pub gone_on : ℕ → Occurrence → List (List ℕ)
gone_on psm (Came at sdu) = []
gone_on psm (Went at sdu) = sdu_if (at == psm) sdu
gone_on psm (Closed at) = []
gone_on psm LinkDown = []
gone_on psm Asked = []
gone_on psm (Answering answers) = []

abbrev pub traffic_after : ℕ → Move → Client → Traffic → Traffic
traffic_after psm (OfServer occurrence) client traffic = record traffic { come = traffic.come ++ come_on psm occurrence; gone = traffic.gone ++ gone_on psm occurrence }
traffic_after psm (OfClient deed) client traffic = record traffic { sent = traffic.sent ++ sent_on psm deed client; told = traffic.told ++ heard_on psm deed }

-- ---- nothing is made up on it

-- What came to the one is among what went from the other before: some of it may be lost, or come twice, or late.
pub record IsTrue (traffic : Traffic) : Type 0 where
  pub requests : All (Contains traffic.sent) traffic.come
  pub replies : All (Contains traffic.gone) traffic.told

-- at each moment
abbrev pub StaysTrue : ℕ → List Move → Client → Traffic → Type 0
StaysTrue psm [] client traffic = Unit {0}
StaysTrue psm (move ∷ moves) client traffic = IsTrue (traffic_after psm move client traffic) × StaysTrue psm moves (client_after move client) (traffic_after psm move client traffic)

-- on the channel to that PSM in a push, on a link of its own
abbrev pub IsTrueOn : ℕ → Push → Type 0
IsTrueOn psm push = StaysTrue psm push.moves (begun_of push) no_traffic

abbrev pub IsAsked : Push → Type 0
IsAsked push = IsTrueOn search_psm push

-- what goes is what the server lends
abbrev pub AllAreOwn : Reacted → List Occurrence → Type 0
AllAreOwn at [] = Unit {0}
AllAreOwn at (one ∷ rest) = IsOwn one at.server × AllAreOwn (done one at) rest

-- ---- the law of the search

-- The client heard of no target, or of one, which names the ways to the service that the server's record names; and what it asked for is a
-- front of the way to that: over L2CAP the channel to the service records, the features and the channel to PSM 1001, over RFCOMM the
-- channel to the service records and that of the multiplexer; less where the server does not serve that transport.
pub record FindsWhatIsServed (settings : Settings) (push : Push) : Type 0 where
  pub heard : (targets_heard (client_side push.moves) (begun_of push) ≡ []) ⊎ (targets_heard (client_side push.moves) (begun_of push) ≡ served_target settings.serves ∷ [])
  pub behind : List Step
  pub way : whole_way push.client.transport (served_target settings.serves ∷ []) ≡ way_taken (client_side push.moves) (begun_of push) ++ behind

-- So it is push after push, from a new server on, whatever becomes of the pushes and whatever its inbox answers.
abbrev pub TargetsAreServed : Type 0
TargetsAreServed = (settings : Settings) (content : Option Contents) (pushes : List Push) (last : Push) → AllByRecursion IsAsked pushes → IsAsked last → AllAreOwn (begun settings content) (over_pushes pushes last)
    → AllByRecursion (FindsWhatIsServed settings) pushes × FindsWhatIsServed settings last

-- ---- a client over RFCOMM

-- It opens the multiplexer, gives its peer 1 to 40 credits, wants no single response mode, and its packets and those of its channel have room
-- for any request.
pub record IsMuxedClient (client : Client) : Type 0 where
  pub muxed : client.transport ≡ Rfcomm
  pub role : client.mux.role ≡ Initiator
  pub fits : client.mux.largest < 2 ^ 16
  pub some : 1 ≤ client.mux.account.cap
  pub few : client.mux.account.cap ≤ 40
  pub plain : client.session.wanted ≡ false
  pub own : 255 ≤ client.session.maximum
  pub short : client.session.maximum < 2 ^ 16
  pub least : 255 ≤ client.limit
  pub most : client.limit < 2 ^ 15

-- an object that may be pushed: its name has at most 100 units, and its length stands in four octets
pub record MayBePushed (name : List ℕ) (size : ℕ) : Type 0 where
  pub short : length (units_in name) ≤ 100
  pub small : size < 2 ^ 32

-- a new client is such a one, and stays one behind each push
abbrev pub NewClientsAreMuxed : Type 0
NewClientsAreMuxed = (settings : Settings) → settings.transport ≡ Rfcomm → IsMuxedClient (new_client settings)

abbrev pub MuxedClientsStay : Type 0
MuxedClientsStay = (client : Client) (name : List ℕ) (size : ℕ) (content : Option (List Stored)) (deeds : List Deed) → IsMuxedClient client → MayBePushed name size → AllAnswer content deeds (with_object name size client)
    → IsMuxedClient (all_done deeds (with_object name size client))

-- ---- the law of requests

-- A push over RFCOMM on a link of its own. What the multiplexers carry is a front of what went, both ways; nothing is made up on the channels to
-- the service records and to PSM 1001; and its shelf answers with as many octets as it was asked for. Nothing is asked of what the client hears, nor
-- of what the server states as its maximum.
pub record IsPushedOver (push : Push) : Type 0 where
  pub client : IsMuxedClient push.client
  pub object : MayBePushed push.name push.size
  pub asked : IsAsked push
  pub direct : IsTrueOn object_psm push
  pub carried : StayCarried push.moves (begun_of push) no_carriage
  pub answers : AllAnswer push.content (client_side push.moves) (begun_of push)

-- what goes is what the server lends, and its inbox answers so
pub record ServesSo (Are : List Answer → Type 0) (at : Reacted) (one : Occurrence) : Type 0 where
  pub own : IsOwn one at.server
  pub answers : AnswersAre Are one

abbrev pub AllServe : (List Answer → Type 0) → Reacted → List Occurrence → Type 0
AllServe Are at [] = Unit {0}
AllServe Are at (one ∷ rest) = ServesSo Are at one × AllServe Are (done one at) rest

-- Whatever becomes of the pushes, no request is ignored, and all else holds that the laws of a server ask of what may come.
abbrev pub PushedAreHeard : Type 0
PushedAreHeard = (settings : Settings) (before : List Stored) (pushes : List Push) (last : Push) → AllByRecursion IsPushedOver pushes → IsPushedOver last → AllServe AllGranted (new_over settings before) (over_pushes pushes last)
    → AllMayCome settings [] (new_over settings before) (over_pushes pushes last)

-- So it is where calls of the inbox fail, but not for want of memory.
abbrev pub PushedAreTaken : Type 0
PushedAreTaken = (settings : Settings) (before : List Stored) (pushes : List Push) (last : Push) → AllByRecursion IsPushedOver pushes → IsPushedOver last → AllServe NoneShort (new_over settings before) (over_pushes pushes last)
    → AllMayFail settings [] (new_over settings before) (over_pushes pushes last)
