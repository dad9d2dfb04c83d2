-- What holds of two ends that have given all they have, beside the order of their frames, and what the number of passes
-- rests on (Core 5.1, Volume 3 Part A, 8.6).
use Rattle.std.specs.Prelude.{ℕ, ◌≡◌, ◌+◌, ◌≤◌, ◌⊎◌, false, true, List, [], ◌∷◌, length, None}
use Rattle.ertm_model.specs.Value.{NoPoll}
use Rattle.ertm_model.specs.Giving.{giving}
use Rattle.ertm_model.specs.Pair.{Sent, End, Pair}
use Rattle.ertm_model.specs.Order.{StandsBoth}
use Rattle.recovery_laws.specs.Number.{Direction, direction, numbers, is_rejected}

-- each number is at most one past the one in front of it, or acknowledged, and the last is the last that was given
abbrev pub RisesTo : (acknowledged given before : ℕ) → List ℕ → Type 0
RisesTo acknowledged given before [] = before + 1 ≡ given
RisesTo acknowledged given before (number ∷ behind) = ((number ≤ before + 1) ⊎ (number ≤ acknowledged)) × RisesTo acknowledged given number behind

abbrev pub RunsToLast : (acknowledged given : ℕ) → List ℕ → Type 0
RunsToLast acknowledged given [] = Unit {0}
RunsToLast acknowledged given (number ∷ behind) = RisesTo acknowledged given number behind

-- the ReqSeqs rise, and the last of them is all that was accepted
abbrev pub Climbs : (low accepted : ℕ) → List Sent → Type 0
Climbs low accepted [] = low ≡ accepted
Climbs low accepted (sent ∷ queue) = (low ≤ sent.asks) × Climbs sent.asks accepted queue

abbrev pub AcknowledgesUpTo : (acknowledged accepted : ℕ) → List Sent → Type 0
AcknowledgesUpTo acknowledged accepted [] = acknowledged ≤ accepted
AcknowledgesUpTo acknowledged accepted (sent ∷ queue) = (acknowledged ≤ sent.asks) × Climbs sent.asks accepted queue

pub record IsSound (d : Direction) : Type 0 where
  pub a_c : d.acknowledged ≤ d.accepted
  pub c_n : d.accepted ≤ d.given
  pub in_window : d.given ≤ d.acknowledged + d.window
  pub in_plan : d.given ≤ d.planned
  pub run : RunsToLast d.acknowledged d.given (numbers d.going)
  pub tells : AcknowledgesUpTo d.acknowledged d.accepted d.coming
  -- a REJ that names the expected frame is outstanding
  pub outstanding : is_rejected d.accepted d.coming ≡ true → d.rejecting ≡ true

-- ---- both ends

-- all that the end puts is planned, its peer is ready, and it counts polls only while it waits for an answer
pub record IsFit (planned : ℕ) (e : End) : Type 0 where
  pub fits : length e.put ≤ planned
  pub ready : e.machine.sender.busy ≡ false
  pub unpolled : e.machine.sender.poll ≡ NoPoll → e.machine.sender.polls ≡ 0

-- it is open and has nothing to give
pub record IsSettled (e : End) : Type 0 where
  pub is_open : e.machine.closed ≡ None
  pub is_silent : giving e.machine ≡ None

pub record Recovers (planned_a planned_b : ℕ) (p : Pair) : Type 0 where
  pub stands : StandsBoth p
  pub settled_a : IsSettled p.a
  pub settled_b : IsSettled p.b
  pub there : IsSound (direction planned_a p.a p.b)
  pub back : IsSound (direction planned_b p.b p.a)
  pub fit_a : IsFit planned_a p.a
  pub fit_b : IsFit planned_b p.b
