-- The two sides with calls of `close`, at any moment, and how many frames may still come between them.
use Rattle.std.specs.Prelude.{ℕ, ◌+◌, ◌<◌, ◌≤◌, List, [], ◌∷◌}
use Rattle.rfcomm_frames.specs.declared.connection.Role.{Role}
use Rattle.rfcomm_frames.specs.declared.connection.Role.TheVariants.{Initiator, Responder}
use Rattle.rfcomm_frames.specs.Frames.{PlainFrame}
use Rattle.rfcomm_model.specs.Machine.{leaves}
use Rattle.rfcomm_model.specs.Loads.{weights, load}
use Rattle.rfcomm_laws.specs.Pairs.{End, Move, Speak, Give, Deliver, Pair, Turn, ByInitiator, ByResponder, turn, Terms, new_pair}

pub data Happening : Type 0 where
  Moves : (turn : Turn) → Happening
  -- a side is told to close
  Closes : (role : Role) → Happening

abbrev pub closing : End → End
closing e = record { mux = leaves e.mux; queue = e.queue; put = e.put; got = e.got }

abbrev pub happens : Happening → Pair → Pair
happens (Moves t) p = turn t p
happens (Closes Initiator) p = record { initiator = closing p.initiator; responder = p.responder }
happens (Closes Responder) p = record { initiator = p.initiator; responder = closing p.responder }

abbrev pub all_happen : List Happening → Pair → Pair
all_happen [] p = p
all_happen (h ∷ hs) p = all_happen hs (happens h p)

-- ---- how many frames may still come

abbrev pub number : Pair → ℕ
number p = load p.initiator.mux + (load p.responder.mux + (weights p.initiator.queue + weights p.responder.queue))

-- a frame comes to the other side, where one is on the way
abbrev pub comes : Move → List PlainFrame → ℕ
comes Speak queue = 0
comes (Give octets) queue = 0
comes Deliver [] = 0
comes Deliver (frame ∷ queue) = 1

abbrev pub came : Happening → Pair → ℕ
came (Moves (ByInitiator move)) p = comes move p.initiator.queue
came (Moves (ByResponder move)) p = comes move p.responder.queue
came (Closes role) p = 0

abbrev pub all_came : List Happening → Pair → ℕ
all_came [] p = 0
all_came (h ∷ hs) p = came h p + all_came hs (happens h p)

-- octets that are given raise the number, and so does a closing
abbrev pub raised_by : Move → ℕ
raised_by Speak = 0
raised_by (Give octets) = 2
raised_by Deliver = 0

abbrev pub raised : Happening → ℕ
raised (Moves (ByInitiator move)) = raised_by move
raised (Moves (ByResponder move)) = raised_by move
raised (Closes role) = 4

abbrev pub all_raised : List Happening → ℕ
all_raised [] = 0
all_raised (h ∷ hs) = raised h + all_raised hs

-- Each frame that comes lowers the number, from any two sides and any frames on the way; so the frames that come are
-- twelve at most, two more for all octets that are given at once, and four more for each call of `close`.
pub record FramesAreFew : Type 0 where
  pub falls : (p : Pair) (h : Happening) → 0 < p.initiator.mux.dlci → 0 < p.responder.mux.dlci → came h p + number (happens h p) ≤ number p + raised h
  pub few : (t : Terms) (hs : List Happening) → all_came hs (new_pair t) + number (all_happen hs (new_pair t)) ≤ 12 + all_raised hs
