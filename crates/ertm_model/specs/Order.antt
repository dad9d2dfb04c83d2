-- What always holds of two ends, and of what is on its way between them (Core 5.1, Volume 3 Part A, 8.6).
use Rattle.std.specs.Prelude.{ℕ, ◌≡◌, ◌≢◌, ◌+◌, ◌%◌, ◌<◌, ◌≤◌, ◌⊎◌, max, Bool, List, [], ◌∷◌, ◌++◌, map, length, slice_get, Option, Some, None}
use Rattle.std.specs.List.{AllByRecursion}
use Rattle.l2cap_config.specs.declared.wish.Agreed.{Agreed}
use Rattle.ertm_frames.specs.declared.frame.SKind.TheVariants.{Rr, Rej}
use Rattle.ertm_frames.specs.Frames.{PlainFrame, information, supervisory}
use Rattle.ertm_frames.specs.Segments.{Segment}
use Rattle.ertm_frames.specs.Joining.{Begun, At, joined, ended}
use Rattle.ertm_frames.specs.Picking.{req_of}
use Rattle.ertm_model.specs.declared.reason.ErtmReason.{ErtmReason}
use Rattle.ertm_model.specs.declared.reason.ErtmReason.TheVariants.{RetryLimit}
use Rattle.ertm_model.specs.Value.{Kept, Sender, Receiver, Rejects}
use Rattle.ertm_model.specs.Hearing.{stated, segment_of}
use Rattle.ertm_model.specs.Pair.{Sent, End, acknowledged_by, given_by, accepted_by, hearing, Pair, Turn, turned, all_turned, new_pair, MayTurn, AllMay, Meets}

-- ---- what is kept from turn to turn

-- An I-frame of number n may be on its way behind frames below `reach`: it carries that number and that segment, was
-- given, and reach is at most n + W. No other S-frames than RR and REJ are on their way.
abbrev pub MayFly : (window : ℕ) (put : List Segment) (given reach number : ℕ) → PlainFrame → Type 0
MayFly window put given reach number (information tx final req sar total octets) =
    (tx ≡ number % 64) × (number < given) × (reach ≤ number + window) × (slice_get put number ≡ Some (segment_of sar total octets))
MayFly window put given reach number (supervisory kind poll final req) = (kind ≡ Rr) ⊎ (kind ≡ Rej)

abbrev pub reached : (reach number : ℕ) → PlainFrame → ℕ
reached reach number (information tx final req sar total octets) = max reach (number + 1)
reached reach number (supervisory kind poll final req) = reach

-- the frames on their way, the front first: reach is C at the front, and then above each number further in front
abbrev pub Flies : (window : ℕ) (put : List Segment) (given reach : ℕ) → List Sent → Type 0
Flies window put given reach [] = reach ≤ given
Flies window put given reach (sent ∷ queue) =
    MayFly window put given reach sent.number sent.frame × Flies window put given (reached reach sent.number sent.frame) queue

-- the ReqSeq values on their way stand for numbers that rise from at least `low` to at most `high`
abbrev pub Rises : (low high : ℕ) → List Sent → Type 0
Rises low high [] = low ≤ high
Rises low high (sent ∷ queue) = (low ≤ sent.asks) × (req_of sent.frame ≡ sent.asks % 64) × Rises sent.asks high queue

abbrev pub kept_segments : List Kept → List Segment
kept_segments unacked = map (λ (kept : Kept). kept.segment) unacked

-- a sender: the first A segments that were put are acknowledged, the next are in the window, the rest were never given
pub record Sends (window : ℕ) (put : List Segment) (a first next : ℕ) (unacked : List Kept) (fresh : List Segment) : Type 0 where
  pub done : List Segment
  pub put_is : put ≡ done ++ (kept_segments unacked ++ fresh)
  pub done_is : length done ≡ a
  pub first_is : first ≡ a % 64
  pub next_in : next ≤ length unacked
  pub in_window : length unacked ≤ window

-- a receiver: what it accepted is the front of what was put, and joins to the SDUs that it handed up and to the one
-- that has begun
pub record Accepts (put : List Segment) (expected : ℕ) (begun : Option Begun) (got : List Segment) (up : List (List ℕ)) : Type 0 where
  pub left : List Segment
  pub put_is : put ≡ got ++ left
  pub expected_is : expected ≡ length got % 64
  pub joins : joined (At None) got ≡ At begun
  pub up_is : ended (At None) got ≡ up

-- what was put is the segments of the SDUs, and the other end takes them
pub record Holds (mtu : ℕ) (put : List Segment) (sdus : List (List ℕ)) : Type 0 where
  pub joins : joined (At None) put ≡ At None
  pub sdus_are : ended (At None) put ≡ sdus
  pub within : AllByRecursion (λ (segment : Segment). stated segment ≤ mtu) put

-- one direction: A <= C <= N, where N is A and the frames in the window; what is on its way; and what comes back
pub record Way (window mtu first next : ℕ) (unacked : List Kept) (fresh put : List Segment) (sdus : List (List ℕ)) (queue : List Sent) (expected : ℕ) (begun : Option Begun) (got : List Segment) (up : List (List ℕ)) (asking : List Sent) : Type 0 where
  pub a : ℕ
  pub sends : Sends window put a first next unacked fresh
  pub accepts : Accepts put expected begun got up
  pub holds : Holds mtu put sdus
  pub a_c : a ≤ length got
  pub c_n : length got ≤ a + length unacked
  pub flies : Flies window put (a + length unacked) (length got) queue
  pub rises : Rises a (length got) asking

abbrev pub WayBy : (window mtu : ℕ) (s : Sender) (put : List Segment) (sdus : List (List ℕ)) (queue : List Sent) (r : Receiver) (got : List Segment) (up : List (List ℕ)) (asking : List Sent) → Type 0
WayBy window mtu s put sdus queue r got up asking = Way window mtu s.first s.next s.unacked s.fresh put sdus queue r.expected r.begun got up asking

-- from x to y
abbrev pub WayOf : (x y : End) → Type 0
WayOf x y = WayBy x.machine.agreed.send_window y.machine.agreed.receive_mtu x.machine.sender x.put x.sdus x.queue y.machine.receiver y.got y.up y.queue

-- an end closes for want of tries alone
abbrev pub OnlyRetries : Option ErtmReason → Type 0
OnlyRetries closed = (closed ≡ None) ⊎ (closed ≡ Some RetryLimit)

pub record Stands (x y : End) : Type 0 where
  pub meets : Meets x.machine.agreed y.machine.agreed
  pub met : Meets y.machine.agreed x.machine.agreed
  pub there : WayOf x y
  pub back : WayOf y x
  pub only_x : OnlyRetries x.machine.closed
  pub only_y : OnlyRetries y.machine.closed

abbrev pub StandsBoth : Pair → Type 0
StandsBoth p = Stands p.a p.b

-- two new ends stand so, and every turn keeps it
abbrev pub NewStands : Type 0
NewStands = (a b : Agreed) → Meets a b → Meets b a → StandsBoth (new_pair a b)

abbrev pub TurnsStand : Type 0
TurnsStand = (turn : Turn) (p : Pair) → MayTurn turn p → StandsBoth p → StandsBoth (turned turn p)

-- ---- what this says

abbrev pub IsBelow : (bound number : ℕ) → PlainFrame → Type 0
IsBelow bound number (information tx final req sar total octets) = number < bound
IsBelow bound number (supervisory kind poll final req) = Unit {0}

-- an I-frame on its way, and the frames in front of it: n < N, C <= n + W, those in front have numbers below n + W, and
-- it carries segment n; an S-frame is an RR or a REJ
abbrev pub IsInOrder : (window : ℕ) (put : List Segment) (given accepted : ℕ) (front : List Sent) (number : ℕ) → PlainFrame → Type 0
IsInOrder window put given accepted front number (information tx final req sar total octets) =
    (tx ≡ number % 64) × (number < given) × (accepted ≤ number + window)
    × AllByRecursion (λ (sent : Sent). IsBelow (number + window) sent.number sent.frame) front × (slice_get put number ≡ Some (segment_of sar total octets))
IsInOrder window put given accepted front number (supervisory kind poll final req) = (kind ≡ Rr) ⊎ (kind ≡ Rej)

-- one direction, from x to y
pub record InOrder (x y : End) : Type 0 where
  -- A <= C <= N <= A + W
  pub a_c : acknowledged_by x ≤ accepted_by y
  pub c_n : accepted_by y ≤ given_by x
  pub n_w : given_by x ≤ acknowledged_by x + x.machine.agreed.send_window
  -- the machines count so, modulo 64
  pub first_is : x.machine.sender.first ≡ acknowledged_by x % 64
  pub used : acknowledged_by x + length x.machine.sender.unacked ≡ given_by x
  pub expected_is : y.machine.receiver.expected ≡ accepted_by y % 64
  -- the ReqSeq values on their way back rise from A to C
  pub rises : Rises (acknowledged_by x) (accepted_by y) y.queue
  pub flies : (front : List Sent) (sent : Sent) (behind : List Sent) → x.queue ≡ front ++ sent ∷ behind
      → IsInOrder x.machine.agreed.send_window x.put (given_by x) (accepted_by y) front sent.number sent.frame
  -- what was accepted is the first C segments; so what was handed up is a front of the SDUs that were submitted
  pub left : List Segment
  pub accepted : x.put ≡ y.got ++ left
  pub left_sdus : List (List ℕ)
  pub pipe : x.sdus ≡ y.up ++ left_sdus
  -- a frame that is handed over, and does not close, is accepted exactly where its number is C
  pub taken : (sent : Sent) (behind : List Sent) (tx req sar total : ℕ) (final : Bool) (octets : List ℕ) → x.queue ≡ sent ∷ behind
      → sent.frame ≡ information tx final req sar total octets → (hearing sent.frame y).machine.closed ≡ None
      → (sent.number ≡ accepted_by y → (hearing sent.frame y).got ≡ y.got ++ segment_of sar total octets ∷ [])
      × (sent.number ≢ accepted_by y → (hearing sent.frame y).got ≡ y.got)
  -- a repeat asks for no REJ
  pub repeats : (sent : Sent) (behind : List Sent) → x.queue ≡ sent ∷ behind → sent.number < accepted_by y
      → y.machine.receiver.reply ≢ Rejects → (hearing sent.frame y).machine.receiver.reply ≢ Rejects
  -- its ReqSeq is taken as the number that was sent
  pub acknowledges : (sent : Sent) (behind : List Sent) → y.queue ≡ sent ∷ behind → (hearing sent.frame x).machine.closed ≡ None
      → acknowledged_by (hearing sent.frame x) ≡ sent.asks
  -- x closes for want of tries alone
  pub only : OnlyRetries x.machine.closed

abbrev pub InOrderBoth : Pair → Type 0
InOrderBoth p = InOrder p.a p.b × InOrder p.b p.a

abbrev pub StandingIsInOrder : Type 0
StandingIsInOrder = (p : Pair) → StandsBoth p → InOrderBoth p

-- so it is after any turns of two new ends
abbrev pub AlwaysInOrder : Type 0
AlwaysInOrder = (a b : Agreed) (turns : List Turn) → Meets a b → Meets b a → AllMay turns (new_pair a b) → InOrderBoth (all_turned turns (new_pair a b))
