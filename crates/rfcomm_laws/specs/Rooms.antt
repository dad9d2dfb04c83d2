-- A frame that comes to one of two sides finds room for its answers, also where they are told to close.
use Rattle.std.specs.Prelude.{ℕ, List, [], ◌∷◌, Ok}
use Rattle.rfcomm_frames.specs.Frames.{PlainFrame}
use Rattle.rfcomm_frames.specs.FrameReading.{frame_answer}
use Rattle.rfcomm_model.specs.Machine.{Mux}
use Rattle.rfcomm_model.specs.Sides.{AnswerFindsRoom}
use Rattle.rfcomm_laws.specs.Happenings.{Happening, all_happen}
use Rattle.rfcomm_laws.specs.Links.{Link, LinkDeed, new_link, all_done, IsRun}
use Rattle.rfcomm_laws.specs.Pairs.{Pair, Terms, new_pair}

-- the first frame on the way, where one is
abbrev pub FirstFindsRoom : List PlainFrame → Mux → Type 0
FirstFindsRoom [] m = Unit {0}
FirstFindsRoom (frame ∷ queue) m = AnswerFindsRoom (Ok frame) m

pub record BothHaveRoom (p : Pair) : Type 0 where
  pub forth : FirstFindsRoom p.initiator.queue p.responder.mux
  pub back : FirstFindsRoom p.responder.queue p.initiator.mux

-- whoever is told to close, and whenever
abbrev pub FramesFindRoom : Type 0
FramesFindRoom = (t : Terms) (hs : List Happening) → BothHaveRoom (all_happen hs (new_pair t))

-- ---- over SDUs

abbrev pub FirstSduFindsRoom : List (List ℕ) → Mux → Type 0
FirstSduFindsRoom [] m = Unit {0}
FirstSduFindsRoom (sdu ∷ queue) m = AnswerFindsRoom (frame_answer sdu) m

pub record LinkHasRoom (l : Link) : Type 0 where
  pub forth : FirstSduFindsRoom l.initiator.queue l.responder.mux
  pub back : FirstSduFindsRoom l.responder.queue l.initiator.mux

abbrev pub SdusFindRoom : Type 0
SdusFindRoom = (t : Terms) (deeds : List LinkDeed) → IsRun deeds (new_link t) → LinkHasRoom (all_done deeds (new_link t))
