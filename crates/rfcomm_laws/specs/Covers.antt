-- What a side sends costs a credit that the other one granted (RFCOMM 1.2, 6.5).
use Rattle.std.specs.Prelude.{ℕ, ◌+◌, ◌≤◌, ◌==◌, ◌&&◌, Bool, List, [], ◌∷◌, if◌then◌else◌}
use Rattle.rfcomm_frames.specs.Frames.{PlainFrame, carries}
use Rattle.rfcomm_frames.specs.FrameReading.{is_empty}
use Rattle.rfcomm_frames.specs.Multiplexing.{credit_octet}
use Rattle.rfcomm_laws.specs.Pairs.{Pair, Turn, all_turns, Terms, new_pair}

-- a UIH frame of the channel
abbrev pub is_of : ℕ → PlainFrame → Bool
is_of dlci frame = (frame.dlci == dlci) && carries frame.kind

-- the frames with information: each costs a credit
abbrev pub data_frames : ℕ → List PlainFrame → ℕ
data_frames dlci [] = 0
data_frames dlci (frame ∷ frames) = (if is_of dlci frame then (if is_empty frame.octets then 0 else 1) else 0) + data_frames dlci frames

-- the credits that they grant
abbrev pub grants : ℕ → List PlainFrame → ℕ
grants dlci [] = 0
grants dlci (frame ∷ frames) = (if is_of dlci frame then credit_octet frame.credits else 0) + grants dlci frames

-- What a side sent and the other one has not heard yet, what it may still send, and the grants that are on their way to
-- it, are together no more than the credits that the other one counts as granted and not yet used. Each data frame
-- that is heard takes one from both, so in all no more was sent than was granted.
pub record Covers (dlci : ℕ) (p : Pair) : Type 0 where
  pub forth : p.initiator.mux.account.held + (data_frames dlci p.initiator.queue + grants dlci p.responder.queue) ≤ p.responder.mux.account.peer
  pub back : p.responder.mux.account.held + (data_frames dlci p.responder.queue + grants dlci p.initiator.queue) ≤ p.initiator.mux.account.peer

abbrev pub CreditsCover : Type 0
CreditsCover = (t : Terms) (turns : List Turn) → Covers t.dlci (all_turns turns (new_pair t))
