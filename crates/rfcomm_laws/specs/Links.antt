-- The two sides over a pipe of SDUs in each direction, which keeps its order or breaks: what a side sends are the octets
-- of its next frame, and what it hears are octets.
use Rattle.std.specs.Prelude.{ℕ, ◌≡◌, true, List, [], ◌∷◌, ◌++◌, map, length, take, Option, Some, None, Ok, if◌then◌else◌}
use Rattle.bt_base.specs.Octets.{IsOctets}
use Rattle.rfcomm_frames.specs.declared.connection.Role.{Role}
use Rattle.rfcomm_frames.specs.declared.connection.Role.TheVariants.{Initiator, Responder}
use Rattle.rfcomm_frames.specs.Frames.{PlainFrame, Spells}
use Rattle.rfcomm_frames.specs.FrameReading.{frame_answer}
use Rattle.rfcomm_model.specs.Machine.{Mux, new_mux, may_pass, is_ready, taken_count, sends, leaves}
use Rattle.rfcomm_model.specs.ClosedSides.{IsOrderly}
use Rattle.rfcomm_model.specs.Hearing.{hears, up}
use Rattle.rfcomm_model.specs.Saying.{Said, next, after_next}
use Rattle.rfcomm_model.specs.Sides.{handed}
use Rattle.rfcomm_laws.specs.Pairs.{End, Pair, Turn, ByInitiator, ByResponder, Move, Speak, Give, Deliver, Terms, new_pair, IsFront}
use Rattle.rfcomm_laws.specs.Happenings.{Happening, Moves, Closes, all_happen}

-- a side, the SDUs that it sent and that are on their way, the octets that it took to be sent, and those that it handed up
pub record LinkEnd : Type 0 where
  pub mux : Mux
  pub queue : List (List ℕ)
  pub put : List ℕ
  pub got : List ℕ

pub record Link : Type 0 where
  pub initiator : LinkEnd
  pub responder : LinkEnd

pub data Act : Type 0 where
  -- it sends an SDU; octets are given to it, where they may be; its first SDU on the way comes to the other side; it is
  -- told to close
  Sends : (sdu : List ℕ) → Act
  Gives : (octets : List ℕ) → Act
  Delivers : Act
  Leaves : Act

pub record LinkDeed : Type 0 where
  pub by : Role
  pub act : Act

abbrev pub first_away : List (List ℕ) → List (List ℕ)
first_away [] = []
first_away (sdu ∷ queue) = queue

abbrev pub gives : List ℕ → LinkEnd → LinkEnd
gives octets e = record { mux = sends octets e.mux; queue = e.queue; put = e.put ++ take (taken_count (length octets) e.mux) octets; got = e.got }

-- what an act makes of the side that does it
abbrev pub own_end : Act → LinkEnd → LinkEnd
own_end (Sends sdu) e = record { mux = after_next e.mux; queue = e.queue ++ sdu ∷ []; put = e.put; got = e.got }
own_end (Gives octets) e = if may_pass e.mux then gives octets e else e
own_end Delivers e = record { mux = e.mux; queue = first_away e.queue; put = e.put; got = e.got }
own_end Leaves e = record { mux = leaves e.mux; queue = e.queue; put = e.put; got = e.got }

-- and of the other side
abbrev pub hears_first : List (List ℕ) → LinkEnd → LinkEnd
hears_first [] e = e
hears_first (sdu ∷ queue) e = record { mux = hears sdu e.mux; queue = e.queue; put = e.put; got = e.got ++ handed (up sdu e.mux) }

abbrev pub other_end : Act → List (List ℕ) → LinkEnd → LinkEnd
other_end (Sends sdu) queue e = e
other_end (Gives octets) queue e = e
other_end Delivers queue e = hears_first queue e
other_end Leaves queue e = e

abbrev pub done_by : Role → Act → Link → Link
done_by Initiator act l = record { initiator = own_end act l.initiator; responder = other_end act l.initiator.queue l.responder }
done_by Responder act l = record { initiator = other_end act l.responder.queue l.initiator; responder = own_end act l.responder }

abbrev pub all_done : List LinkDeed → Link → Link
all_done [] l = l
all_done (deed ∷ deeds) l = all_done deeds (done_by deed.by deed.act l)

-- an SDU is that of the next frame
abbrev pub IsOf : List ℕ → Option Said → Type 0
IsOf sdu None = ⊥
IsOf sdu (Some said) = IsOctets sdu × Spells said.frame sdu

abbrev pub IsSent : Act → Mux → Type 0
IsSent (Sends sdu) m = IsOf sdu (next m)
IsSent (Gives octets) m = Unit {0}
IsSent Delivers m = Unit {0}
IsSent Leaves m = Unit {0}

abbrev pub side_of : Role → Link → LinkEnd
side_of Initiator l = l.initiator
side_of Responder l = l.responder

-- each SDU that is sent is that of the next frame of its side
abbrev pub IsRun : List LinkDeed → Link → Type 0
IsRun [] l = Unit {0}
IsRun (deed ∷ deeds) l = IsSent deed.act (side_of deed.by l).mux × IsRun deeds (done_by deed.by deed.act l)

abbrev pub new_end : Mux → LinkEnd
new_end mux = record { mux = mux; queue = []; put = []; got = [] }

abbrev pub new_link : Terms → Link
new_link t = record { initiator = new_end (new_mux Initiator t.dlci t.own t.own t.cap); responder = new_end (new_mux Responder t.dlci t.own_peer t.own_peer t.cap_peer) }

-- nobody is told to close
abbrev pub IsStaying : Act → Type 0
IsStaying (Sends sdu) = Unit {0}
IsStaying (Gives octets) = Unit {0}
IsStaying Delivers = Unit {0}
IsStaying Leaves = ⊥

abbrev pub AllStay : List LinkDeed → Type 0
AllStay [] = Unit {0}
AllStay (deed ∷ deeds) = IsStaying deed.act × AllStay deeds

-- ---- the laws

-- what a deed is among the happenings of frames
abbrev pub move_of : Act → Option Move
move_of (Sends sdu) = Some Speak
move_of (Gives octets) = Some (Give octets)
move_of Delivers = Some Deliver
move_of Leaves = None

abbrev pub by_role : Role → Move → Turn
by_role Initiator move = ByInitiator move
by_role Responder move = ByResponder move

abbrev pub happening : Role → Option Move → Happening
happening role None = Closes role
happening role (Some move) = Moves (by_role role move)

abbrev pub happening_of : LinkDeed → Happening
happening_of deed = happening deed.by (move_of deed.act)

-- the SDUs are read as these frames, one for one
abbrev pub AreFrames : List (List ℕ) → List PlainFrame → Type 0
AreFrames [] [] = Unit {0}
AreFrames [] (frame ∷ frames) = ⊥
AreFrames (sdu ∷ sdus) [] = ⊥
AreFrames (sdu ∷ sdus) (frame ∷ frames) = (frame_answer sdu ≡ Ok frame) × AreFrames sdus frames

pub record MirrorsEnd (l : LinkEnd) (e : End) : Type 0 where
  pub mux : l.mux ≡ e.mux
  pub queue : AreFrames l.queue e.queue
  pub put : l.put ≡ e.put
  pub got : l.got ≡ e.got

pub record Mirrors (l : Link) (p : Pair) : Type 0 where
  pub initiator : MirrorsEnd l.initiator p.initiator
  pub responder : MirrorsEnd l.responder p.responder

-- a run over SDUs is the run over frames
abbrev pub SdusAreFrames : Type 0
SdusAreFrames = (t : Terms) (deeds : List LinkDeed) → IsRun deeds (new_link t) → Mirrors (all_done deeds (new_link t)) (all_happen (map happening_of deeds) (new_pair t))

-- while nobody is told to close, neither side closes, and what came is a front of what went, both ways
pub record LinkPipes (l : Link) : Type 0 where
  pub initiator_stands : l.initiator.mux.closed ≡ None
  pub responder_stands : l.responder.mux.closed ≡ None
  pub forth : IsFront l.responder.got l.initiator.put
  pub back : IsFront l.initiator.got l.responder.put

abbrev pub LinksArePipes : Type 0
LinksArePipes = (t : Terms) (deeds : List LinkDeed) → AllStay deeds → IsRun deeds (new_link t) → LinkPipes (all_done deeds (new_link t))

-- where nothing is on the way and neither side has an SDU to send, octets may be sent both ways, and all that were taken
-- have come
pub record LinkIsStill (l : Link) : Type 0 where
  pub none_forth : l.initiator.queue ≡ []
  pub none_back : l.responder.queue ≡ []
  pub initiator_silent : next l.initiator.mux ≡ None
  pub responder_silent : next l.responder.mux ≡ None

pub record LinkIsDone (l : Link) : Type 0 where
  pub initiator_ready : is_ready l.initiator.mux ≡ true
  pub responder_ready : is_ready l.responder.mux ≡ true
  pub forth : l.responder.got ≡ l.initiator.put
  pub back : l.initiator.got ≡ l.responder.put

abbrev pub StillLinksAreDone : Type 0
StillLinksAreDone = (t : Terms) (deeds : List LinkDeed) → AllStay deeds → IsRun deeds (new_link t) → LinkIsStill (all_done deeds (new_link t)) → LinkIsDone (all_done deeds (new_link t))

-- whoever is told to close, and whenever: neither side refused the other, and what came is a front of what went
pub record LinkClosesInOrder (l : Link) : Type 0 where
  pub initiator_orderly : IsOrderly l.initiator.mux.closed
  pub responder_orderly : IsOrderly l.responder.mux.closed
  pub forth : IsFront l.responder.got l.initiator.put
  pub back : IsFront l.initiator.got l.responder.put

abbrev pub LinksCloseInOrder : Type 0
LinksCloseInOrder = (t : Terms) (deeds : List LinkDeed) → IsRun deeds (new_link t) → LinkClosesInOrder (all_done deeds (new_link t))
