-- Where nothing is on the way and nobody has anything to send, all is done.
use Rattle.std.specs.Prelude.{ℕ, ◌+◌, ◌*◌, ◌≤◌, ◌≡◌, ◌⊎◌, true, List, [], ◌∷◌, Option, Some, None}
use Rattle.rfcomm_model.specs.Machine.{is_ready}
use Rattle.rfcomm_model.specs.Saying.{Said, next}
use Rattle.rfcomm_laws.specs.Pairs.{End, Move, Speak, Give, Deliver, Pair, Turn, ByInitiator, ByResponder, all_turns, Terms, new_pair}
use Rattle.rfcomm_laws.specs.Happenings.{Happening, Moves, Closes, happens, comes, all_raised}

-- no frame is on the way, and neither side has one to send
pub record IsStill (p : Pair) : Type 0 where
  pub none_forth : p.initiator.queue ≡ []
  pub none_back : p.responder.queue ≡ []
  pub initiator_silent : next p.initiator.mux ≡ None
  pub responder_silent : next p.responder.mux ≡ None

-- octets may be sent both ways, and all that were taken have come
pub record IsDone (p : Pair) : Type 0 where
  pub initiator_ready : is_ready p.initiator.mux ≡ true
  pub responder_ready : is_ready p.responder.mux ≡ true
  pub forth : p.responder.got ≡ p.initiator.put
  pub back : p.initiator.got ≡ p.responder.put

-- Whatever was given.
abbrev pub StillIsDone : Type 0
StillIsDone = (t : Terms) (turns : List Turn) → IsStill (all_turns turns (new_pair t)) → IsDone (all_turns turns (new_pair t))

-- ---- frames are said and come, in any order

abbrev pub is_said : Option Said → ℕ
is_said None = 0
is_said (Some said) = 1

-- how many frames a move says or brings to the other side: one or none
abbrev pub acted : Move → End → ℕ
acted Speak e = is_said (next e.mux)
acted (Give octets) e = 0
acted Deliver e = comes Deliver e.queue

abbrev pub acts : Happening → Pair → ℕ
acts (Moves (ByInitiator move)) p = acted move p.initiator
acts (Moves (ByResponder move)) p = acted move p.responder
acts (Closes role) p = 0

abbrev pub all_acts : List Happening → Pair → ℕ
all_acts [] p = 0
all_acts (h ∷ hs) p = acts h p + all_acts hs (happens h p)

-- a frame can be said, or one can come
abbrev pub CanAct : Pair → Type 0
CanAct p = (t : Turn) × (acts (Moves t) p ≡ 1)

-- Frames are said and come 24 times at most, four times more for octets that are given at once and eight times more for a
-- closing; and where nobody closes they go on to be said and to come until the channel is open and each octet that was
-- taken has come.
pub record OctetsCome : Type 0 where
  pub few : (t : Terms) (hs : List Happening) → all_acts hs (new_pair t) ≤ 24 + 2 * all_raised hs
  pub goes_on : (t : Terms) (turns : List Turn) → IsDone (all_turns turns (new_pair t)) ⊎ CanAct (all_turns turns (new_pair t))
