-- One side of a multiplexer over time: what is done to it, and what it hears and sends.
use Rattle.std.specs.Prelude.{ℕ, ◌+◌, ◌-◌, ◌==◌, ◌≤◌, ◌<◌, ◌≡◌, Bool, true, false, List, [], length, ◌∷◌, ◌++◌, Option, Some, None, if◌then◌else◌, Ok, Err}
use Rattle.rfcomm_frames.specs.declared.frame.MuxKind.{MuxKind}
use Rattle.rfcomm_frames.specs.declared.frame.MuxKind.TheVariants.{Sabm, Ua, Dm, Disc, Uih}
use Rattle.rfcomm_frames.specs.declared.connection.Role.{Role}
use Rattle.rfcomm_frames.specs.Frames.{PlainFrame}
use Rattle.rfcomm_frames.specs.Answers.{Answer}
use Rattle.rfcomm_frames.specs.FrameReading.{frame_answer, MessageAnswer, messages}
use Rattle.rfcomm_frames.specs.Connections.{other_role}
use Rattle.rfcomm_frames.specs.Multiplexing.{Framed, Connections, no_connections, connections_after, carried, granted, spent}
use Rattle.rfcomm_model.specs.declared.state.MuxReason.{MuxReason}
use Rattle.rfcomm_model.specs.Machine.{Mux, new_mux, may_pass, sends, leaves, Kept}
use Rattle.rfcomm_model.specs.Hearing.{has_room, if_stands, hears_message, hears, Up, nothing, opened, bytes, closed, up}
use Rattle.rfcomm_model.specs.Saying.{Said, next, after_next}

pub data Deed : Type 0 where
  -- an SDU comes; the next one goes, if there is one; octets are given to be sent; it is to be closed
  Hears : (sdu : List ℕ) → Deed
  Says : Deed
  Sends : (octets : List ℕ) → Deed
  Leaves : Deed

-- the multiplexer, the frames of both sides that it heard and sent, and the octets that it handed up
pub record Side : Type 0 where
  pub mux : Mux
  pub talk : List Framed
  pub got : List ℕ

abbrev pub handed : Up → List ℕ
handed nothing = []
handed opened = []
handed (bytes octets) = octets
handed (closed reason) = []

abbrev pub heard_frame : Role → Answer → List Framed
heard_frame from (Ok frame) = record { from = from; frame = frame } ∷ []
heard_frame from (Err refusal) = []

abbrev pub said_by : Option Said → Side → Side
said_by None side = side
said_by (Some said) side = record { mux = said.after; talk = side.talk ++ record { from = side.mux.role; frame = said.frame } ∷ []; got = side.got }

-- octets are given where they may be
abbrev pub given : List ℕ → Mux → Mux
given octets m = if may_pass m then sends octets m else m

abbrev pub done : Deed → Side → Side
done (Hears sdu) side = record {
  mux = hears sdu side.mux;
  talk = side.talk ++ heard_frame (other_role side.mux.role) (frame_answer sdu);
  got = side.got ++ handed (up sdu side.mux);
}
done Says side = said_by (next side.mux) side
done (Sends octets) side = record { mux = given octets side.mux; talk = side.talk; got = side.got }
done Leaves side = record { mux = leaves side.mux; talk = side.talk; got = side.got }

abbrev pub all_done : List Deed → Side → Side
all_done [] side = side
all_done (deed ∷ deeds) side = all_done deeds (done deed side)

abbrev pub new_side : Role → (dlci largest own cap : ℕ) → Side
new_side role dlci largest own cap = record { mux = new_mux role dlci largest own cap; talk = []; got = [] }

-- ---- room for answers

-- each message in turn finds room for an answer
abbrev pub FindRoom : List MessageAnswer → Mux → Type 0
FindRoom [] m = Unit {0}
FindRoom (message ∷ rest) m = (has_room m ≡ true) × FindRoom rest (if_stands (hears_message message) m.closed m)

-- the messages on the control channel do; information on the user channel needs no answer, whatever octets it has
abbrev pub FindRoomOn : Bool → List MessageAnswer → Mux → Type 0
FindRoomOn true list m = FindRoom list m
FindRoomOn false list m = Unit {0}

-- a frame that may need an answer finds room for it
abbrev pub FindsRoom : MuxKind → PlainFrame → Mux → Type 0
FindsRoom Sabm frame m = has_room m ≡ true
FindsRoom Ua frame m = Unit {0}
FindsRoom Dm frame m = Unit {0}
FindsRoom Disc frame m = has_room m ≡ true
FindsRoom Uih frame m = FindRoomOn (frame.dlci == 0) (messages frame.octets) m

abbrev pub AnswerFindsRoom : Answer → Mux → Type 0
AnswerFindsRoom (Ok frame) m = FindsRoom frame.kind frame m
AnswerFindsRoom (Err refusal) m = Unit {0}

abbrev pub DeedFindsRoom : Deed → Mux → Type 0
DeedFindsRoom (Hears sdu) m = AnswerFindsRoom (frame_answer sdu) m
DeedFindsRoom Says m = Unit {0}
DeedFindsRoom (Sends octets) m = Unit {0}
DeedFindsRoom Leaves m = Unit {0}

-- nothing that came was ignored for want of room
abbrev pub AlwaysRoom : List Deed → Side → Type 0
AlwaysRoom [] side = Unit {0}
AlwaysRoom (deed ∷ deeds) side = DeedFindsRoom deed side.mux × AlwaysRoom deeds (done deed side)

-- the same over the input alone: so many answers may wait at most, if each frame that may need one gets one, and each SDU
-- that is sent is an answer
abbrev pub asks_of : MuxKind → PlainFrame → ℕ
asks_of Sabm frame = 1
asks_of Ua frame = 0
asks_of Dm frame = 0
asks_of Disc frame = 1
asks_of Uih frame = if frame.dlci == 0 then length (messages frame.octets) else 0

abbrev pub asked_by : Answer → ℕ
asked_by (Ok frame) = asks_of frame.kind frame
asked_by (Err refusal) = 0

-- no flood: at no moment more than 16 answers may wait
abbrev pub NoFlood : ℕ → List Deed → Type 0
NoFlood n [] = Unit {0}
NoFlood n (Hears sdu ∷ deeds) = (n + asked_by (frame_answer sdu) ≤ 16) × NoFlood (n + asked_by (frame_answer sdu)) deeds
NoFlood n (Says ∷ deeds) = NoFlood (n - 1) deeds
NoFlood n (Sends octets ∷ deeds) = NoFlood n deeds
NoFlood n (Leaves ∷ deeds) = NoFlood n deeds

-- ---- the law

abbrev pub connections_of : ℕ → Connections → List Framed → Connections
connections_of dlci c [] = c
connections_of dlci c (f ∷ fs) = connections_of dlci (connections_after dlci c f) fs

-- what a side holds and handed up is what the frames that it heard and sent say
pub record Reads (dlci : ℕ) (role : Role) (side : Side) : Type 0 where
  pub connections : record { control = side.mux.control; user = side.mux.user } ≡ connections_of dlci no_connections side.talk
  pub octets : side.got ≡ carried dlci (other_role role) no_connections side.talk
  pub credits : granted dlci role no_connections side.talk ≡ spent dlci role side.talk + side.mux.account.held

-- For whatever comes and whatever is asked of it: as long as it is not closed, and while nothing that came was ignored
-- for want of room.
abbrev pub SidesRead : Type 0
SidesRead = (role : Role) (dlci largest own cap : ℕ) (deeds : List Deed) → 0 < dlci →
    let side = all_done deeds (new_side role dlci largest own cap) in
    side.mux.closed ≡ None → AlwaysRoom deeds (new_side role dlci largest own cap) → Reads dlci role side

-- A flood is what a side may ignore; of an input that is none, what it holds is what the frames say.
abbrev pub UnfloodedSidesRead : Type 0
UnfloodedSidesRead = (role : Role) (dlci largest own cap : ℕ) (deeds : List Deed) → 0 < dlci →
    let side = all_done deeds (new_side role dlci largest own cap) in
    side.mux.closed ≡ None → NoFlood 0 deeds → Reads dlci role side

-- Once it is closed it stays closed, and hands nothing up.
pub record StaysClosed (m : Mux) (reason : MuxReason) : Type 0 where
  pub stays : (deed : Deed) (talk : List Framed) (got : List ℕ) → (done deed (record { mux = m; talk = talk; got = got })).mux.closed ≡ Some reason
  pub silent : (sdu : List ℕ) → up sdu m ≡ nothing

abbrev pub ClosedForGood : Type 0
ClosedForGood = (m : Mux) (reason : MuxReason) → m.closed ≡ Some reason → StaysClosed m reason

-- Whatever it hears and says, it keeps its side, its channel, its room and the credits that its peer is to have.
pub record NumbersStay : Type 0 where
  pub hearing : (sdu : List ℕ) (m : Mux) → Kept m.role m.dlci m.largest m.account.cap (hears sdu m)
  pub saying : (m : Mux) → Kept m.role m.dlci m.largest m.account.cap (after_next m)
