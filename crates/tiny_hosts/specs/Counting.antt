-- A host that counts to three, and awaits each number back (this project's own).
use Rattle.std.specs.Prelude.{ℕ, ◌≡◌, ◌<◌, ◌+◌, ◌==◌, ◌&&◌, nat_lt, Bool, true, false, List, Option, Some, None, if◌then◌else◌}
use Rattle.std.proofs.Common.{refl, ap, arith}
use Rattle.push_terms.specs.declared.outcome.Outcome.{Outcome}
use Rattle.push_terms.specs.declared.outcome.Outcome.TheVariants as outcomes
use Rattle.line_laws.specs.world_model.specs.Machines.{News, Linked, Up, Down, Heard, TimerFired, Cancelled, Opening, Upper}
use Rattle.tiny_hosts.specs.declared.counter.Counter.{Counter}
use Rattle.tiny_hosts.specs.declared.counter.Stage.{Stage}
use Rattle.tiny_hosts.specs.declared.counter.Stage.TheVariants.{Resting, Calling, Saying, Waiting, Leaving}
use Rattle.tiny_hosts.specs.Minds.{Unasked}
use Rattle.tiny_hosts.specs.Talking.{pdu_of, octet_in, one_more}

abbrev pub first_counter : Counter
first_counter = record { stage = Resting; number = 0; outcome = None; heard = 0 }

-- it counts to three
abbrev pub last_number : ℕ
last_number = 3

-- the number that it awaits came back: it says the next, or it is done
abbrev pub goes_on : Counter → Counter
goes_on counter =
    if nat_lt counter.number last_number then record counter { stage = Saying; number = counter.number + 1 } else record counter { stage = Leaving; outcome = Some outcomes.Done }

abbrev pub heard_at : Stage → ℕ → Counter → Counter
heard_at Waiting octet counter = if octet == counter.number then goes_on counter else counter
heard_at stage octet counter = counter

abbrev pub up_at : Stage → Counter → Counter
up_at Calling counter = record counter { stage = Saying }
up_at stage counter = counter

-- a link that goes down before it is done is lost
abbrev pub lost_at : Stage → Option Outcome → Option Outcome
lost_at Resting outcome = outcome
lost_at Leaving outcome = outcome
lost_at stage outcome = Some outcomes.LinkLost

abbrev pub fired_at : Stage → Counter → Counter
fired_at Waiting counter = record counter { stage = Saying }
fired_at stage counter = counter

abbrev pub is_talking : Stage → Bool
is_talking Saying = true
is_talking Waiting = true
is_talking stage = false

abbrev pub counter_hears : List Unasked → News → Counter → Counter
counter_hears answers (Opening name) counter = record counter { stage = Calling; number = 1; outcome = None }
counter_hears answers (Linked Up) counter = up_at counter.stage counter
counter_hears answers (Linked (Down reason)) counter = record counter { stage = Resting; outcome = lost_at counter.stage counter.outcome }
counter_hears answers (Heard pdu) counter = heard_at counter.stage (octet_in pdu) (record counter { heard = one_more counter.heard })
counter_hears answers TimerFired counter = fired_at counter.stage counter
counter_hears answers Cancelled counter = if is_talking counter.stage then record counter { stage = Leaving; outcome = Some outcomes.Cancelled } else counter
counter_hears answers news counter = counter

abbrev pub said_at : Stage → Counter → Option (List ℕ × Counter)
said_at Saying counter = Some (pdu_of counter.number, record counter { stage = Waiting })
said_at stage counter = None

abbrev pub counter_next : Counter → Option (List ℕ × Counter)
counter_next counter = said_at counter.stage counter

abbrev pub left_at : Stage → ℕ
left_at Saying = 1
left_at stage = 0

abbrev pub counter_left : Counter → ℕ
counter_left counter = left_at counter.stage

after_said : Option (List ℕ × Counter) → Counter
after_said None = first_counter
after_said (Some one) = one.1

falls_at : (stage : Stage) (counter : Counter) (pdu : List ℕ) (after : Counter) → said_at stage counter ≡ Some (pdu, after) → counter_left after < left_at stage
unfolding after_said
falls_at Saying counter pdu after is = let same = ap after_said is in rw (← same) (omega arith)
falls_at Resting counter pdu after is = cc
falls_at Calling counter pdu after is = cc
falls_at Waiting counter pdu after is = cc
falls_at Leaving counter pdu after is = cc

pub counter_falls : (counter : Counter) (pdu : List ℕ) (after : Counter) → counter_next counter ≡ Some (pdu, after) → counter_left after < counter_left counter
counter_falls counter pdu after is = falls_at counter.stage counter pdu after is

abbrev pub is_resting : Stage → Bool
is_resting Resting = true
is_resting stage = false

abbrev pub is_calling : Stage → Bool
is_calling Calling = true
is_calling stage = false

abbrev pub is_waiting : Stage → Bool
is_waiting Waiting = true
is_waiting stage = false

abbrev pub is_leaving : Stage → Bool
is_leaving Leaving = true
is_leaving stage = false

abbrev pub counter : Upper Counter Unasked
counter = record {
  first = first_counter;
  hear = counter_hears;
  next = counter_next;
  left = counter_left;
  falls = counter_falls;
  wants_link = λ counter. is_calling counter.stage;
  leaves_link = λ counter. is_leaving counter.stage;
  is_idle = λ counter. is_resting counter.stage;
  outcome = λ counter. counter.outcome;
  armed = λ counter. is_waiting counter.stage;
  may_cancel = λ counter. is_talking counter.stage;
  has_check = λ counter channel. true;
}
