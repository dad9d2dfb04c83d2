-- A client and a server of Object Push over RFCOMM, from the opening of the client's channel on: what either multiplexer sends
-- comes to the other in its order or not at all (RFCOMM 1.2, 5; Object Push Profile 1.2, 4.3).
use Rattle.std.specs.Prelude.{ℕ, ◌≡◌, ◌==◌, ◌≤◌, ◌<◌, ◌^◌, ◌-◌, ◌||◌, Bool, true, false, List, [], ◌∷◌, ◌++◌, None}
use Rattle.std.specs.List.{AllByRecursion}
use Rattle.link_talk.specs.bt_base.specs.Objects.{Object as Stored}
use Rattle.link_talk.specs.bt_base.specs.declared.settings.Settings.{Settings}
use Rattle.link_talk.specs.bt_base.specs.declared.settings.Transport.{Transport}
use Rattle.link_talk.specs.bt_base.specs.declared.settings.Transport.TheVariants.{Rfcomm}
use Rattle.push_model.specs.obex_session.specs.InboxCalls.{Answer}
use Rattle.push_model.specs.Service.{Service}
use Rattle.push_model.specs.rfcomm_frames.specs.declared.connection.Role.TheVariants.{Initiator, Responder}
use Rattle.push_model.specs.rfcomm_frames.specs.FrameReading.{frame_answer}
use Rattle.push_model.specs.rfcomm_frames.specs.Frames.{PlainFrame}
use Rattle.rfcomm_laws.specs.Links.{AreFrames}
use Rattle.push_model.specs.rfcomm_model.specs.ClosedSides.{IsOrderly}
use Rattle.push_model.specs.rfcomm_model.specs.Machine.{new_mux}
use Rattle.push_model.specs.rfcomm_model.specs.Sides.{AnswerFindsRoom}
use Rattle.push_model.specs.declared.course.Stage.TheVariants.{Object}
use Rattle.push_model.specs.Client.{Client}
use Rattle.push_model.specs.Events.{News, LinkUp, LinkFailed, ChannelOpen, ChannelClosed, Sdu, FeaturesTold, FeaturesLost, Timer}
use Rattle.push_model.specs.Events as news
use Rattle.push_model.specs.Laws.{Deed, Hears, Asks, Finishes, Cancels}
use Rattle.push_model.specs.Payloads.{Payload, Octets, Framed}
use Rattle.push_model.specs.Responding.{is_object}
use Rattle.push_model.specs.Server.{Server, Reacted, rfcomm_psm, server_channel}
use Rattle.push_model.specs.Steps.{Step, Wait, MakeLink, AskFeatures, OpenChannel, SendSdu, CloseChannel, BreakLink, Ended, NoMemory, steps}
use Rattle.push_laws.specs.Occurrences.{Occurrence, Came, Went, Closed, LinkDown, Asked, Answering, done, IsOwn}
use Rattle.push_laws.specs.Laws.{new_over}
use Rattle.push_laws.specs.Parties.{Move, OfServer, OfClient, server_side, client_after, sdu_if, IsFrontOf, Push, begun_of, over_pushes}
use Rattle.push_laws.specs.Premises.{AllGranted, NoneShort, AnswersAre, IsHeard, IsTaken, RequestsCome, AllMayCome, AllMayFail, may_overtake}
use Rattle.push_laws.specs.Readings.{closes, user_dlci}

-- ---- the channel of the multiplexers, as each of them has it

-- the frames that the client sent, the SDUs that came to the server, those that went from it and those that came to the client,
-- and whether the server's channel was closed
pub record Carriage : Type 0 where
  pub sent : List PlainFrame
  pub come : List (List ℕ)
  pub gone : List (List ℕ)
  pub told : List (List ℕ)
  pub closed : Bool

abbrev pub no_carriage : Carriage
no_carriage = record { sent = []; come = []; gone = []; told = []; closed = false }

abbrev pub frames_in : Payload → List PlainFrame
frames_in (Octets octets) = []
frames_in (Framed frame) = frame ∷ []

abbrev pub frames_of : Step → List PlainFrame
frames_of Wait = []
frames_of MakeLink = []
frames_of AskFeatures = []
frames_of (OpenChannel psm) = []
frames_of (SendSdu psm payload) = frames_in payload
frames_of (CloseChannel psm) = []
frames_of BreakLink = []
frames_of (Ended outcome) = []
frames_of NoMemory = []

-- what a client sends to the multiplexer
abbrev pub frames_by : Deed → Client → List PlainFrame
frames_by (Hears news) client = []
frames_by (Asks parts) client = frames_of (steps client parts).step
frames_by Finishes client = []
frames_by Cancels client = []

-- what comes from there
abbrev pub told_by : News → List (List ℕ)
told_by LinkUp = []
told_by (news.LinkDown reason) = []
told_by (LinkFailed status) = []
told_by (ChannelOpen psm mtu) = []
told_by (ChannelClosed psm cause) = []
told_by (Sdu psm octets) = sdu_if (psm == rfcomm_psm) octets
told_by FeaturesTold = []
told_by FeaturesLost = []
told_by Timer = []

abbrev pub heard_by : Deed → List (List ℕ)
heard_by (Hears news) = told_by news
heard_by (Asks parts) = []
heard_by Finishes = []
heard_by Cancels = []

abbrev pub come_by : Occurrence → List (List ℕ)
come_by (Came psm sdu) = sdu_if (psm == rfcomm_psm) sdu
come_by (Went psm sdu) = []
come_by (Closed psm) = []
come_by LinkDown = []
come_by Asked = []
come_by (Answering answers) = []

abbrev pub gone_by : Occurrence → List (List ℕ)
gone_by (Came psm sdu) = []
gone_by (Went psm sdu) = sdu_if (psm == rfcomm_psm) sdu
gone_by (Closed psm) = []
gone_by LinkDown = []
gone_by Asked = []
gone_by (Answering answers) = []

abbrev pub carriage_after : Move → Client → Carriage → Carriage
carriage_after (OfServer occurrence) client c = record c {
  come = c.come ++ come_by occurrence;
  gone = c.gone ++ gone_by occurrence;
  closed = c.closed || closes rfcomm_psm occurrence;
}
carriage_after (OfClient deed) client c = record c {
  sent = c.sent ++ frames_by deed client;
  told = c.told ++ heard_by deed;
}

-- ---- each way is a pipe

-- the SDUs that came are read as a front of the frames that were sent
pub record AreCarried (c : Carriage) : Type 0 where
  pub front : List PlainFrame
  pub behind : List PlainFrame
  pub forth : c.sent ≡ front ++ behind
  pub read : AreFrames c.come front
  pub back : IsFrontOf c.told c.gone

-- nothing comes to a server on a channel that was closed
abbrev pub ComesOpen : Move → Carriage → Type 0
ComesOpen (OfServer occurrence) c = c.closed ≡ true → come_by occurrence ≡ []
ComesOpen (OfClient deed) c = Unit {0}

-- at each moment
abbrev pub StayCarried : List Move → Client → Carriage → Type 0
StayCarried [] client c = Unit {0}
StayCarried (move ∷ moves) client c =
    AreCarried (carriage_after move client c) × ComesOpen move c × StayCarried moves (client_after move client) (carriage_after move client c)

-- ---- the two of them

-- The client's channel of the object has opened, so its multiplexer is new; the server's is new too.
pub record OpensMuxed (settings : Settings) (client : Client) (server : Server) : Type 0 where
  pub muxed : client.transport ≡ Rfcomm
  pub here : client.stage ≡ Object
  pub there : client.psm ≡ rfcomm_psm
  pub largest : ℕ
  pub own : ℕ
  pub cap : ℕ
  pub mux : client.mux ≡ new_mux Initiator user_dlci largest own cap
  pub least : 23 ≤ own
  pub most : own < 2 ^ 16
  pub some : 1 ≤ cap
  pub few : cap ≤ 40
  pub server_mux : server.mux ≡ new_mux Responder user_dlci (settings.mtu - 6) (settings.mtu - 6) settings.credits
  pub none_waits : server.frame ≡ None

-- what goes is what the server lends, and no call of its inbox answered want of memory
pub record ServesMuxed (at : Reacted) (one : Occurrence) : Type 0 where
  pub own : IsOwn one at.server
  pub works : at.server.listener.service.failed ≡ false

abbrev pub AllServeMuxed : Reacted → List Occurrence → Type 0
AllServeMuxed at [] = Unit {0}
AllServeMuxed at (one ∷ rest) = ServesMuxed at one × AllServeMuxed (done one at) rest

-- ---- the law

-- a frame that comes finds room for its answers, and the multiplexer refuses nothing
pub record FrameFits (at : Reacted) (one : Occurrence) : Type 0 where
  pub room : (sdu : List ℕ) → one ≡ Came rfcomm_psm sdu → AnswerFindsRoom (frame_answer sdu) at.server.mux
  pub orderly : IsOrderly (done one at).server.mux.closed

abbrev pub AllFramesFit : Reacted → List Occurrence → Type 0
AllFramesFit at [] = Unit {0}
AllFramesFit at (one ∷ rest) = FrameFits at one × AllFramesFit (done one at) rest

-- Whatever becomes of the push: it goes on, is cancelled, fails, or its link or its channel is lost.
abbrev pub FramesFit : Type 0
FramesFit = (settings : Settings) (client : Client) (at : Reacted) (moves : List Move) → OpensMuxed settings client at.server → AllServeMuxed at (server_side moves) → StayCarried moves client no_carriage
    → AllFramesFit at (server_side moves)

-- ---- whole pushes

-- where a client is on the channel of its object, that is for the server's channel
abbrev pub IsThere : Client → Type 0
IsThere client = is_object client.stage ≡ true → (client.psm ≡ rfcomm_psm) × (client.channel ≡ server_channel)

abbrev pub StaysThere : List Move → Client → Type 0
StaysThere [] client = Unit {0}
StaysThere (move ∷ moves) client = IsThere (client_after move client) × StaysThere moves (client_after move client)

-- a push over RFCOMM, on a link of its own
pub record IsPushedMuxed (push : Push) : Type 0 where
  pub muxed : push.client.transport ≡ Rfcomm
  pub role : push.client.mux.role ≡ Initiator
  pub fits : push.client.mux.largest < 2 ^ 16
  pub some : 1 ≤ push.client.mux.account.cap
  pub few : push.client.mux.account.cap ≤ 40
  pub there : StaysThere push.moves (begun_of push)
  pub carried : StayCarried push.moves (begun_of push) no_carriage

-- So it is push after push, from a new server on.
abbrev pub PushedFramesFit : Type 0
PushedFramesFit = (settings : Settings) (before : List Stored) (pushes : List Push) (last : Push) → AllByRecursion IsPushedMuxed pushes → IsPushedMuxed last → AllServeMuxed (new_over settings before) (over_pushes pushes last)
    → AllFramesFit (new_over settings before) (over_pushes pushes last)

-- ---- what is left to ask for

-- What goes is what the server lends, its inbox answers so, requests come one at a time, and a frame that comes says the same behind
-- the one of the server that waits.
pub record ComesMuxed (Are : List Answer → Type 0) (Comes : Transport → List ℕ → Type 0) (settings : Settings) (past : List Occurrence) (at : Reacted) (one : Occurrence) : Type 0 where
  pub own : IsOwn one at.server
  pub answers : AnswersAre Are one
  pub requests : RequestsCome Comes settings past one
  pub behind : (sdu : List ℕ) → one ≡ Came rfcomm_psm sdu → may_overtake (frame_answer sdu) at.server.frame ≡ true

abbrev pub AllComeMuxed : (List Answer → Type 0) → (List Occurrence → Service → Transport → List ℕ → Type 0) → Settings → List Occurrence → Reacted → List Occurrence → Type 0
AllComeMuxed Are Comes settings past at [] = Unit {0}
AllComeMuxed Are Comes settings past at (one ∷ rest) = ComesMuxed Are (Comes past at.server.listener.service) settings past at one × AllComeMuxed Are Comes settings (past ++ one ∷ []) (done one at) rest

-- All else holds then that the laws of a server ask of what may come.
abbrev pub PushesMayCome : Type 0
PushesMayCome = (settings : Settings) (before : List Stored) (pushes : List Push) (last : Push) → AllByRecursion IsPushedMuxed pushes → IsPushedMuxed last
    → AllComeMuxed AllGranted (IsHeard settings) settings [] (new_over settings before) (over_pushes pushes last) → AllMayCome settings [] (new_over settings before) (over_pushes pushes last)

-- So it is where calls of the inbox fail, but not for want of memory.
abbrev pub PushesMayFail : Type 0
PushesMayFail = (settings : Settings) (before : List Stored) (pushes : List Push) (last : Push) → AllByRecursion IsPushedMuxed pushes → IsPushedMuxed last
    → AllComeMuxed NoneShort (IsTaken settings) settings [] (new_over settings before) (over_pushes pushes last) → AllMayFail settings [] (new_over settings before) (over_pushes pushes last)
