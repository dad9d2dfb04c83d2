-- The two sides of a multiplexer over a pipe of frames in each direction, which keeps its order or breaks.
use Rattle.std.specs.Prelude.{ℕ, ◌^◌, ◌<◌, ◌≤◌, ◌≡◌, ◌&&◌, not, List, [], ◌∷◌, ◌++◌, length, take, Option, Some, None, Ok, if◌then◌else◌}
use Rattle.rfcomm_frames.specs.declared.connection.Role.TheVariants.{Initiator, Responder}
use Rattle.rfcomm_frames.specs.Frames.{PlainFrame}
use Rattle.rfcomm_model.specs.Machine.{Mux, new_mux, may_pass, is_ready, taken_count, sends}
use Rattle.rfcomm_model.specs.Hearing.{hears_answer, news, data_of}
use Rattle.rfcomm_model.specs.Saying.{Said, next}
use Rattle.rfcomm_model.specs.Sides.{handed}

-- a side, the frames that it sent and that are on their way, the octets that it took to be sent, and those that it
-- handed up
pub record End : Type 0 where
  pub mux : Mux
  pub queue : List PlainFrame
  pub put : List ℕ
  pub got : List ℕ

abbrev pub new_end : Mux → End
new_end mux = record { mux = mux; queue = []; put = []; got = [] }

pub data Move : Type 0 where
  -- it sends its next frame, if it has one; octets are given to it, where they may be; its first frame on the way
  -- comes to the other side
  Speak : Move
  Give : (octets : List ℕ) → Move
  Deliver : Move

abbrev pub spoken : Option Said → End → End
spoken None e = e
spoken (Some said) e = record { mux = said.after; queue = e.queue ++ said.frame ∷ []; put = e.put; got = e.got }

abbrev pub taking : List ℕ → End → End
taking octets e = record { mux = sends octets e.mux; queue = e.queue; put = e.put ++ take (taken_count (length octets) e.mux) octets; got = e.got }

abbrev pub without_first : List PlainFrame → List PlainFrame
without_first [] = []
without_first (frame ∷ queue) = queue

-- what a move makes of the side that makes it
abbrev pub near : Move → End → End
near Speak e = spoken (next e.mux) e
near (Give octets) e = if may_pass e.mux then taking octets e else e
near Deliver e = record { mux = e.mux; queue = without_first e.queue; put = e.put; got = e.got }

-- what a frame hands up
abbrev pub handed_by : PlainFrame → Mux → List ℕ
handed_by frame m =
    let after = hears_answer (Ok frame) m in
    handed (news m.closed after.closed (is_ready after && not (is_ready m)) (data_of frame m))

abbrev pub hearing : List PlainFrame → End → End
hearing [] e = e
hearing (frame ∷ queue) e = record { mux = hears_answer (Ok frame) e.mux; queue = e.queue; put = e.put; got = e.got ++ handed_by frame e.mux }

-- and of the other side
abbrev pub far : Move → List PlainFrame → End → End
far Speak queue e = e
far (Give octets) queue e = e
far Deliver queue e = hearing queue e

pub record Pair : Type 0 where
  pub initiator : End
  pub responder : End

pub data Turn : Type 0 where
  ByInitiator : (move : Move) → Turn
  ByResponder : (move : Move) → Turn

abbrev pub turn : Turn → Pair → Pair
turn (ByInitiator move) p = record { initiator = near move p.initiator; responder = far move p.initiator.queue p.responder }
turn (ByResponder move) p = record { initiator = far move p.responder.queue p.initiator; responder = near move p.responder }

abbrev pub all_turns : List Turn → Pair → Pair
all_turns [] p = p
all_turns (t ∷ ts) p = all_turns ts (turn t p)

-- numbers that the two sides may have
pub record Terms : Type 0 where
  pub dlci : ℕ
  pub some : 0 < dlci
  pub few : dlci < 64
  pub own : ℕ
  pub own_peer : ℕ
  pub least : 23 ≤ own
  pub least_peer : 23 ≤ own_peer
  pub most : own < 2 ^ 16
  pub most_peer : own_peer < 2 ^ 16
  pub cap : ℕ
  pub cap_peer : ℕ
  pub cap_least : 1 ≤ cap
  pub cap_peer_least : 1 ≤ cap_peer
  pub cap_most : cap ≤ 40
  pub cap_peer_most : cap_peer ≤ 40

abbrev pub new_pair : Terms → Pair
new_pair t = record { initiator = new_end (new_mux Initiator t.dlci t.own t.own t.cap); responder = new_end (new_mux Responder t.dlci t.own_peer t.own_peer t.cap_peer) }

-- what one side handed up is a front of what the other one took
abbrev pub IsFront : List ℕ → List ℕ → Type 0
IsFront got put = (rest : List ℕ) × (put ≡ got ++ rest)

-- whatever moves are made, neither side closes, and what came is a front of what went, both ways
pub record Pipes (p : Pair) : Type 0 where
  pub initiator_stands : p.initiator.mux.closed ≡ None
  pub responder_stands : p.responder.mux.closed ≡ None
  pub forth : IsFront p.responder.got p.initiator.put
  pub back : IsFront p.initiator.got p.responder.put

abbrev pub PairsArePipes : Type 0
PairsArePipes = (t : Terms) (turns : List Turn) → Pipes (all_turns turns (new_pair t))
