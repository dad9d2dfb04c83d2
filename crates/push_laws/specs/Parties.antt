-- A client and a server of Object Push over L2CAP, whose channels of the object are a pipe each way on each link: what came to
-- the one is a front of what went from the other (IrOBEX 1.5, 2.2 and 3.2).
use Rattle.std.specs.Prelude.{ℕ, ◌≡◌, ◌==◌, ◌≤◌, ◌<◌, ◌^◌, ◌||◌, Bool, true, false, Option, List, [], ◌∷◌, ◌++◌, if◌then◌else◌}
use Rattle.std.specs.List.{AllByRecursion, flat_map}
use Rattle.link_talk.specs.bt_base.specs.declared.settings.Settings.{Settings}
use Rattle.link_talk.specs.bt_base.specs.declared.settings.Transport.TheVariants.{L2cap}
use Rattle.link_talk.specs.bt_base.specs.Objects.{Object}
use Rattle.push_model.specs.obex_session.specs.InboxCalls.{Answer}
use Rattle.push_model.specs.Client.{Client, with_object}
use Rattle.push_model.specs.Events.{News, LinkUp, LinkFailed, ChannelOpen, ChannelClosed, Sdu, FeaturesTold, FeaturesLost, Timer}
use Rattle.push_model.specs.Events as news
use Rattle.push_model.specs.Laws.{Deed, Hears, Asks, Finishes, Cancels, all_done}
use Rattle.push_model.specs.Laws as deeds
use Rattle.push_model.specs.Server.{Reacted, object_psm, rfcomm_psm}
use Rattle.push_laws.specs.Laws.{new_over}
use Rattle.push_laws.specs.Occurrences.{Occurrence, Came, Went, Closed, LinkDown, Asked, Answering, done, IsOwn}
use Rattle.push_laws.specs.Premises.{AllGranted, NoneShort, AnswersAre, AllMayCome, AllMayFail}
use Rattle.push_laws.specs.Readings.{closes}
use Rattle.push_laws.specs.Sending.{packets_by, AllAnswer, MayPush}
use Rattle.push_laws.specs.Turns.{AllTakeTurns}

-- ---- what happens to both, one thing after the other

pub data Move : Type 0 where
  OfServer : (occurrence : Occurrence) → Move
  OfClient : (deed : Deed) → Move

abbrev pub of_server : Move → List Occurrence
of_server (OfServer occurrence) = occurrence ∷ []
of_server (OfClient deed) = []

abbrev pub of_client : Move → List Deed
of_client (OfServer occurrence) = []
of_client (OfClient deed) = deed ∷ []

abbrev pub server_side : List Move → List Occurrence
server_side moves = flat_map of_server moves

abbrev pub client_side : List Move → List Deed
client_side moves = flat_map of_client moves

abbrev pub client_after : Move → Client → Client
client_after (OfServer occurrence) client = client
client_after (OfClient deed) client = deeds.done deed client

-- ---- the channel of the object, as each of them has it

-- the requests that were sent and that came, the responses that went and that came, and whether the server's channel was closed
pub record Pipes : Type 0 where
  pub requests_sent : List (List ℕ)
  pub requests_come : List (List ℕ)
  pub responses_sent : List (List ℕ)
  pub responses_come : List (List ℕ)
  pub closed : Bool

abbrev pub no_pipes : Pipes
no_pipes = record { requests_sent = []; requests_come = []; responses_sent = []; responses_come = []; closed = false }

abbrev pub sdu_if : Bool → List ℕ → List (List ℕ)
sdu_if here sdu = if here then sdu ∷ [] else []

-- what a client sends there is a request
abbrev pub sent_by : Deed → Client → List (List ℕ)
sent_by deed client = if client.psm == object_psm then packets_by deed client else []

-- what comes there is a response
abbrev pub told_by : News → List (List ℕ)
told_by LinkUp = []
told_by (news.LinkDown reason) = []
told_by (LinkFailed status) = []
told_by (ChannelOpen psm mtu) = []
told_by (ChannelClosed psm cause) = []
told_by (Sdu psm octets) = sdu_if (psm == object_psm) octets
told_by FeaturesTold = []
told_by FeaturesLost = []
told_by Timer = []

abbrev pub heard_by : Deed → List (List ℕ)
heard_by (Hears news) = told_by news
heard_by (Asks parts) = []
heard_by Finishes = []
heard_by Cancels = []

abbrev pub come_by : Occurrence → List (List ℕ)
come_by (Came psm sdu) = sdu_if (psm == object_psm) sdu
come_by (Went psm sdu) = []
come_by (Closed psm) = []
come_by LinkDown = []
come_by Asked = []
come_by (Answering answers) = []

abbrev pub gone_by : Occurrence → List (List ℕ)
gone_by (Came psm sdu) = []
gone_by (Went psm sdu) = sdu_if (psm == object_psm) sdu
gone_by (Closed psm) = []
gone_by LinkDown = []
gone_by Asked = []
gone_by (Answering answers) = []

abbrev pub pipes_after : Move → Client → Pipes → Pipes
pipes_after (OfServer occurrence) client pipes = record pipes {
  requests_come = pipes.requests_come ++ come_by occurrence;
  responses_sent = pipes.responses_sent ++ gone_by occurrence;
  closed = pipes.closed || closes object_psm occurrence;
}
pipes_after (OfClient deed) client pipes = record pipes {
  requests_sent = pipes.requests_sent ++ sent_by deed client;
  responses_come = pipes.responses_come ++ heard_by deed;
}

-- ---- each way is a pipe

abbrev pub IsFrontOf : (front all : List (List ℕ)) → Type 0
IsFrontOf front all = (behind : List (List ℕ)) × (all ≡ front ++ behind)

pub record ArePipes (pipes : Pipes) : Type 0 where
  pub requests : IsFrontOf pipes.requests_come pipes.requests_sent
  pub responses : IsFrontOf pipes.responses_come pipes.responses_sent

-- nothing comes to a server on a channel that was closed
abbrev pub ComesOpen : Move → Pipes → Type 0
ComesOpen (OfServer occurrence) pipes = pipes.closed ≡ true → come_by occurrence ≡ []
ComesOpen (OfClient deed) pipes = Unit {0}

-- at each moment
abbrev pub StayPipes : List Move → Client → Pipes → Type 0
StayPipes [] client pipes = Unit {0}
StayPipes (move ∷ moves) client pipes =
    ArePipes (pipes_after move client pipes) × ComesOpen move pipes × StayPipes moves (client_after move client) (pipes_after move client pipes)

-- ---- a push, on a link of its own

-- the client as it was when it began the push of an object, what its shelf tells, and what happened
pub record Push : Type 0 where
  pub client : Client
  pub name : List ℕ
  pub size : ℕ
  pub content : Option (List Object)
  pub moves : List Move

abbrev pub begun_of : Push → Client
begun_of push = with_object push.name push.size push.client

-- A push over L2CAP of an object of any size, in any mode, whose shelf answers with as many octets as it was asked for; and the channels of the object
-- are pipes.
pub record IsOffered (push : Push) : Type 0 where
  pub direct : push.client.transport ≡ L2cap
  pub may : MayPush push.client push.name push.size
  pub answers : AllAnswer push.content (client_side push.moves) (begun_of push)
  pub carried : StayPipes push.moves (begun_of push) no_pipes

-- such a push of an object of at most 16,777,215 octets
pub record IsPushed (push : Push) : Type 0 where
  pub offered : IsOffered push
  pub bounded : push.size ≤ 16777215

-- ---- one push after the other

-- behind a push a client is as it was in what the next one asks of it
pub record IsAlike (client after : Client) : Type 0 where
  pub transport : after.transport ≡ client.transport
  pub maximum : after.session.maximum ≡ client.session.maximum
  pub wanted : after.session.wanted ≡ client.session.wanted
  pub least : 255 ≤ after.limit
  pub most : after.limit < 2 ^ 15

abbrev pub PushesLeaveAlike : Type 0
PushesLeaveAlike = (client : Client) (name : List ℕ) (size : ℕ) (content : Option (List Object)) (deeds : List Deed) → client.transport ≡ L2cap → MayPush client name size → AllAnswer content deeds (with_object name size client)
    → IsAlike client (all_done deeds (with_object name size client))

-- what happened to the server in pushes whose links went down, one after the other, and in a last one
abbrev pub ended_with : Push → List Occurrence
ended_with push = server_side push.moves ++ LinkDown ∷ []

abbrev pub over_pushes : List Push → Push → List Occurrence
over_pushes pushes last = flat_map ended_with pushes ++ server_side last.moves

-- ---- the server

abbrev pub NoFrame : Occurrence → Type 0
NoFrame (Came psm sdu) = psm ≡ rfcomm_psm → ⊥
NoFrame (Went psm sdu) = Unit {0}
NoFrame (Closed psm) = Unit {0}
NoFrame LinkDown = Unit {0}
NoFrame Asked = Unit {0}
NoFrame (Answering answers) = Unit {0}

-- what goes is what it lends, its inbox answers so, and nothing comes to the multiplexer
pub record ServesDirectly (Are : List Answer → Type 0) (at : Reacted) (one : Occurrence) : Type 0 where
  pub own : IsOwn one at.server
  pub answers : AnswersAre Are one
  pub direct : NoFrame one

abbrev pub AllServeDirectly : (List Answer → Type 0) → Reacted → List Occurrence → Type 0
AllServeDirectly Are at [] = Unit {0}
AllServeDirectly Are at (one ∷ rest) = ServesDirectly Are at one × AllServeDirectly Are (done one at) rest

-- ---- the laws

-- Where the inbox grants all calls each request comes in turn, whatever becomes of the pushes: also where single response mode is used, one
-- is cancelled, or a link is lost.
abbrev pub RequestsComeInTurn : Type 0
RequestsComeInTurn = (settings : Settings) (before : List Object) (pushes : List Push) (last : Push) → AllByRecursion IsPushed pushes → IsPushed last → AllServeDirectly AllGranted (new_over settings before) (over_pushes pushes last)
    → AllTakeTurns settings [] false (new_over settings before) (over_pushes pushes last)

-- So no request is ignored, and all else holds that the laws of a server ask of what may come.
abbrev pub RequestsAreHeard : Type 0
RequestsAreHeard = (settings : Settings) (before : List Object) (pushes : List Push) (last : Push) → AllByRecursion IsPushed pushes → IsPushed last → AllServeDirectly AllGranted (new_over settings before) (over_pushes pushes last)
    → AllMayCome settings [] (new_over settings before) (over_pushes pushes last)

-- ---- where calls of the inbox fail

-- A push over L2CAP by a client that wants no single response mode: each of its requests has a response.
pub record IsPushedByTurns (push : Push) : Type 0 where
  pub direct : push.client.transport ≡ L2cap
  pub plain : push.client.session.wanted ≡ false
  pub answers : AllAnswer push.content (client_side push.moves) (begun_of push)
  pub carried : StayPipes push.moves (begun_of push) no_pipes

-- Then no request is ignored either where calls of the inbox fail, but not for want of memory.
abbrev pub RequestsAreTaken : Type 0
RequestsAreTaken = (settings : Settings) (before : List Object) (pushes : List Push) (last : Push) → AllByRecursion IsPushedByTurns pushes → IsPushedByTurns last → AllServeDirectly NoneShort (new_over settings before) (over_pushes pushes last)
    → AllMayFail settings [] (new_over settings before) (over_pushes pushes last)
