-- How many passes two ends of an enhanced channel may still need, where nothing more goes wrong (this project's own; it
-- counts what Core 5.1, Volume 3 Part A, 8.6 has the ends do).
use Rattle.std.specs.Prelude.{ℕ, ◌+◌, ◌-◌, ◌*◌, ◌==◌, Bool, true, false, ◌&&◌, ◌||◌, not, nat_lt, List, [], ◌∷◌, ◌++◌, if◌then◌else◌}
use Rattle.std.specs.List.{list_any}
use Rattle.ertm_frames.specs.Frames.{PlainFrame, information, supervisory}
use Rattle.ertm_frames.specs.Picking.{is_poll, is_final}
use Rattle.ertm_model.specs.Value.{Poll, NoPoll, Due, Waits}
use Rattle.ertm_model.specs.Hearing.{rejects_frames}
use Rattle.ertm_model.specs.Pair.{Sent, End, acknowledged_by, given_by, accepted_by, Pair}

-- ---- one direction

-- What the number sees of a sender and of the other end, its receiver: the sender's window, how many segments it puts in
-- all, of which some may still be to come, how many are acknowledged and given; whether it awaits the answer to a poll;
-- the frames that go to the receiver, which accepted so many and may have a REJ outstanding; and those that come back.
pub record Direction : Type 0 where
  pub window : ℕ
  pub planned : ℕ
  pub acknowledged : ℕ
  pub given : ℕ
  pub waits : Bool
  pub going : List Sent
  pub accepted : ℕ
  pub rejecting : Bool
  pub coming : List Sent

abbrev pub is_waiting : Poll → Bool
is_waiting NoPoll = false
is_waiting Due = true
is_waiting Waits = true

-- a poll is to be given
abbrev pub is_due : Poll → Bool
is_due NoPoll = false
is_due Due = true
is_due Waits = false

-- from x to y
abbrev pub direction : ℕ → (x y : End) → Direction
direction planned x y = record {
  window = x.machine.agreed.send_window;
  planned = planned;
  acknowledged = acknowledged_by x;
  given = given_by x;
  waits = is_waiting x.machine.sender.poll;
  going = x.queue;
  accepted = accepted_by y;
  rejecting = y.machine.receiver.rejecting;
  coming = y.queue;
}

-- ---- frames on their way

-- an I-frame may bring an RR or a REJ, and a poll brings its answer
abbrev pub weight : PlainFrame → ℕ
weight (information tx final req sar total octets) = 2
weight (supervisory kind poll final req) = if poll then 2 else 1

abbrev pub weights : List Sent → ℕ
weights [] = 0
weights (sent ∷ queue) = weight sent.frame + weights queue

abbrev pub rejections : List Sent → ℕ
rejections [] = 0
rejections (sent ∷ queue) = (if rejects_frames sent.frame then 1 else 0) + rejections queue

-- the numbers of the I-frames
abbrev pub number_in : ℕ → PlainFrame → List ℕ
number_in number (information tx final req sar total octets) = number ∷ []
number_in number (supervisory kind poll final req) = []

abbrev pub numbers : List Sent → List ℕ
numbers [] = []
numbers (sent ∷ queue) = number_in sent.number sent.frame ++ numbers queue

-- the first of the numbers is past the expected one; the expected one is among them
abbrev pub is_past : ℕ → List ℕ → Bool
is_past expected [] = false
is_past expected (number ∷ behind) = nat_lt expected number

abbrev pub is_among : ℕ → List ℕ → Bool
is_among expected numbers = list_any (λ (number : ℕ). number == expected) numbers

-- a REJ that names the expected number
abbrev pub is_rejected : ℕ → List Sent → Bool
is_rejected expected queue = list_any (λ (sent : Sent). rejects_frames sent.frame && (sent.asks == expected)) queue

abbrev pub has_poll : List Sent → Bool
has_poll queue = list_any (λ (sent : Sent). is_poll sent.frame) queue

abbrev pub has_final : List Sent → Bool
has_final queue = list_any (λ (sent : Sent). is_final sent.frame) queue

abbrev pub is_still : List Sent → Bool
is_still [] = true
is_still (sent ∷ queue) = false

-- ---- what is still due

-- the next I-frame that comes will be rejected
abbrev pub skips : Direction → Bool
skips d = not d.rejecting && is_past d.accepted (numbers d.going)

-- the expected frame was given and is no more on its way; or all were accepted, which nothing on its way tells
abbrev pub is_missing : Direction → Bool
is_missing d = nat_lt d.accepted d.given && not (is_among d.accepted (numbers d.going))

abbrev pub is_untold : Direction → Bool
is_untold d = (d.accepted == d.given) && (nat_lt d.acknowledged d.given && is_still d.coming)

-- so nothing but the timer goes on
abbrev pub stalls : Direction → Bool
stalls d = not d.waits && (not (is_rejected d.accepted d.coming) && (is_missing d || is_untold d))

-- a REJ or a poll is still to be given, for which the sender will give its frames again
abbrev pub wants_again : Direction → Bool
wants_again d = skips d || stalls d

-- a poll is awaited whose answer will not come
abbrev pub wants_answer : Direction → Bool
wants_answer d = d.waits && (not (has_poll d.going) && not (has_final d.coming))

-- how often the sender may still give its frames again
abbrev pub sendings_left : Direction → ℕ
sendings_left d = rejections d.coming + ((if d.waits then 1 else 0) + (if wants_again d then 1 else 0))

-- and its timer may still have to fire
abbrev pub firings_left : Direction → ℕ
firings_left d = (if wants_again d then 1 else 0) + (if wants_answer d then 1 else 0)

-- ---- the number

abbrev pub work_left : Direction → ℕ
work_left d = 2 * (d.planned - d.given) + (2 * d.window * sendings_left d + 3 * firings_left d)

abbrev pub passes_left : (planned_a planned_b : ℕ) → Pair → ℕ
passes_left planned_a planned_b p =
    (weights p.a.queue + weights p.b.queue) + (work_left (direction planned_a p.a p.b) + work_left (direction planned_b p.b p.a))
