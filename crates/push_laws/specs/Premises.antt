-- When a server makes of what it hears all that it spells: nothing is ignored, and one object is pushed at a time (this
-- project's own).
use Rattle.std.specs.Prelude.{ℕ, ◌≡◌, ◌==◌, ◌≤◌, ◌&&◌, ◌||◌, nat_lt, Bool, true, false, List, [], ◌∷◌, ◌++◌, length, Option, Some, None, Ok, Err}
use Rattle.std.specs.List.{AllByRecursion}
use Rattle.link_talk.specs.bt_base.specs.declared.ports.PortFault.TheVariants.{NoMemory}
use Rattle.link_talk.specs.bt_base.specs.declared.settings.Settings.{Settings}
use Rattle.link_talk.specs.bt_base.specs.declared.settings.Transport.{Transport}
use Rattle.link_talk.specs.bt_base.specs.declared.settings.Transport.TheVariants.{Rfcomm}
use Rattle.push_model.specs.obex_headers.specs.declared.packet.Phase.TheVariants.{Request}
use Rattle.push_model.specs.obex_headers.specs.Reading.{packet_in}
use Rattle.push_model.specs.obex_headers.specs.Runs.{names}
use Rattle.push_model.specs.rfcomm_frames.specs.declared.frame.MuxKind.{MuxKind}
use Rattle.push_model.specs.rfcomm_frames.specs.declared.frame.MuxKind.TheVariants.{Sabm, Ua, Dm, Disc, Uih}
use Rattle.push_model.specs.rfcomm_frames.specs.Answers.{Answer as Read}
use Rattle.push_model.specs.rfcomm_frames.specs.Frames.{PlainFrame, carries}
use Rattle.push_model.specs.rfcomm_frames.specs.FrameReading.{frame_answer}
use Rattle.push_model.specs.rfcomm_model.specs.Sides.{AnswerFindsRoom}
use Rattle.push_model.specs.rfcomm_model.specs.ClosedSides.{IsOrderly}
use Rattle.push_model.specs.obex_session.specs.InboxCalls.{Answer}
use Rattle.push_model.specs.obex_session.specs.Laws.{without_fault}
use Rattle.push_model.specs.obex_session.specs.Marks.{kind_of}
use Rattle.push_model.specs.obex_session.specs.Past.{open_headers}
use Rattle.push_model.specs.obex_session.specs.Serving.{has_name}
use Rattle.link_talk.specs.Gains.{gained}
use Rattle.push_model.specs.Client.{own_maximum}
use Rattle.push_model.specs.Sessions.{session_of, other_of, has_object, is_naming}
use Rattle.push_model.specs.Service.{Service, is_ignored}
use Rattle.push_model.specs.Listening.{has_bad_length}
use Rattle.push_model.specs.Server.{Server, Reacted, rfcomm_psm}
use Rattle.push_laws.specs.Occurrences.{Occurrence, Came, Went, Closed, LinkDown, Asked, Answering, done, IsOwn}
use Rattle.push_laws.specs.Readings.{packets_over}

-- ---- requests

-- an object is under way over a transport: its Name came, and its run of packets goes on
abbrev pub is_under_way : Settings → Transport → List Occurrence → Bool
is_under_way settings transport past = nat_lt 0 (length (names (open_headers (own_maximum transport settings) (without_fault (packets_over transport past)))))

-- a PUT with a Name
abbrev pub is_named : Settings → Transport → List ℕ → Bool
is_named settings transport packet = has_name (kind_of (packet_in Request (own_maximum transport settings) packet))

-- a request is heard: it is not ignored because a response waits, and where it has a Name, no object is under way over the
-- other transport
pub record IsHeard (settings : Settings) (past : List Occurrence) (service : Service) (transport : Transport) (packet : List ℕ) : Type 0 where
  pub taken : is_ignored transport packet service ≡ false
  pub alone : is_named settings transport packet ≡ true → is_under_way settings (other_of transport) past ≡ false

-- where it has a Name, no object is under way over the other transport, also where calls of the inbox fail and requests are ignored
pub record IsAlone (settings : Settings) (past : List Occurrence) (service : Service) (transport : Transport) (packet : List ℕ) : Type 0 where
  pub alone : is_naming transport packet service.sessions ≡ true → has_object (session_of (other_of transport) service.sessions) ≡ false

-- the same of one that is not ignored
pub record IsTaken (settings : Settings) (past : List Occurrence) (service : Service) (transport : Transport) (packet : List ℕ) : Type 0 where
  pub taken : is_ignored transport packet service ≡ false
  pub alone : is_naming transport packet service.sessions ≡ true → has_object (session_of (other_of transport) service.sessions) ≡ false

-- the packets that are whole with one occurrence more
abbrev pub new_packets : Transport → List Occurrence → Occurrence → List (List ℕ)
new_packets transport past one = gained (packets_over transport) past one

-- Requests come one at a time. Behind one over RFCOMM whose length is refused the multiplexer is closed.
pub record RequestsCome (Comes : Transport → List ℕ → Type 0) (settings : Settings) (past : List Occurrence) (one : Occurrence) : Type 0 where
  pub single : length (new_packets Rfcomm past one) ≤ 1
  pub heard : (transport : Transport) → AllByRecursion (Comes transport) (new_packets transport past one)
  pub lengths : AllByRecursion (λ packet. has_bad_length (packet_in Request (own_maximum Rfcomm settings) packet) ≡ false) (new_packets Rfcomm past one)

-- ---- the inbox

-- it grants all calls, or it does not lack memory
abbrev pub AllGranted : List Answer → Type 0
AllGranted answers = AllByRecursion (λ answer. answer ≡ Ok tt) answers

abbrev pub NoneShort : List Answer → Type 0
NoneShort answers = AllByRecursion (λ answer. answer ≡ Err NoMemory → ⊥) answers

abbrev pub AnswersAre : (List Answer → Type 0) → Occurrence → Type 0
AnswersAre Are (Came psm sdu) = Unit {0}
AnswersAre Are (Went psm sdu) = Unit {0}
AnswersAre Are (Closed psm) = Unit {0}
AnswersAre Are LinkDown = Unit {0}
AnswersAre Are Asked = Unit {0}
AnswersAre Are (Answering answers) = Are answers

-- ---- all of it

-- UA or DM
abbrev pub is_answer : MuxKind → Bool
is_answer Sabm = false
is_answer Ua = true
is_answer Dm = true
is_answer Disc = false
is_answer Uih = false

abbrev pub leaves : MuxKind → Bool
leaves Sabm = false
leaves Ua = false
leaves Dm = false
leaves Disc = true
leaves Uih = false

-- DISC, or messages on the control channel
abbrev pub leaves_or_controls : PlainFrame → Bool
leaves_or_controls frame = leaves frame.kind || (carries frame.kind && (frame.dlci == 0))

abbrev pub is_apart : Read → Bool
is_apart (Ok frame) = leaves_or_controls frame
is_apart (Err refusal) = true

-- A frame comes while another waits for its channel: that is one of any kind if the latter carries information, and DISC or
-- messages on the control channel if the latter is UA or DM. So both say the same in either order.
abbrev pub may_overtake : Read → Option PlainFrame → Bool
may_overtake read None = true
may_overtake read (Some waiting) = carries waiting.kind || (is_answer waiting.kind && is_apart read)

-- a frame that comes finds room for its answers, and says the same behind the one that waits
pub record FrameIsHeard (sdu : List ℕ) (server : Server) : Type 0 where
  pub room : AnswerFindsRoom (frame_answer sdu) server.mux
  pub behind : may_overtake (frame_answer sdu) server.frame ≡ true

-- what may happen next, behind all that was
pub record MayCome (Are : List Answer → Type 0) (Comes : Transport → List ℕ → Type 0) (settings : Settings) (past : List Occurrence) (at : Reacted) (one : Occurrence) : Type 0 where
  -- what goes is what the server lends
  pub own : IsOwn one at.server
  pub answers : AnswersAre Are one
  pub requests : RequestsCome Comes settings past one
  pub frame : (sdu : List ℕ) → one ≡ Came rfcomm_psm sdu → FrameIsHeard sdu at.server
  -- the multiplexer refuses nothing
  pub orderly : IsOrderly (done one at).server.mux.closed

abbrev pub AllCome : (List Answer → Type 0) → (List Occurrence → Service → Transport → List ℕ → Type 0) → Settings → List Occurrence → Reacted → List Occurrence → Type 0
AllCome Are Comes settings past at [] = Unit {0}
AllCome Are Comes settings past at (one ∷ rest) =
    MayCome Are (Comes past at.server.listener.service) settings past at one × AllCome Are Comes settings (past ++ one ∷ []) (done one at) rest

-- all of them may, over an inbox that grants all calls
abbrev pub AllMayCome : Settings → List Occurrence → Reacted → List Occurrence → Type 0
AllMayCome settings past at occurrences = AllCome AllGranted (IsHeard settings) settings past at occurrences

-- or over one whose calls may fail, but not for want of memory
abbrev pub AllMayFail : Settings → List Occurrence → Reacted → List Occurrence → Type 0
AllMayFail settings past at occurrences = AllCome NoneShort (IsTaken settings) settings past at occurrences

-- or where besides requests may be ignored
abbrev pub AllMayMiss : Settings → List Occurrence → Reacted → List Occurrence → Type 0
AllMayMiss settings past at occurrences = AllCome NoneShort (IsAlone settings) settings past at occurrences
