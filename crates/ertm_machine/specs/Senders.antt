-- What a sender holds, and what it gives.
use Rattle.std.specs.Prelude.{ℕ, ◌≡◌, ◌+◌, ◌<◌, ◌≤◌, ◌||◌, ◌&&◌, not, Bool, true, false, List, [], ◌∷◌, ◌++◌, length, nat_lt, nat_le, slice_get, Option, Some, None, if◌then◌else◌}
use Rattle.ertm_frames.specs.Segments.{Segment}
use Rattle.ertm_model.specs.Submitting.{is_some_fresh}
use Rattle.ertm_model.specs.Value as value
use Rattle.ertm_model.specs.Giving as giving
use Rattle.ertm_machine.specs.declared.sender.Poll.{Poll}
use Rattle.ertm_machine.specs.declared.sender.Poll.TheVariants as poll
use Rattle.ertm_machine.specs.declared.sender.Sender.TheInside.{Inside}
use Rattle.ertm_machine.specs.Values.{SenderValue}

abbrev pub poll_of : Poll → value.Poll
poll_of poll.Nothing = value.NoPoll
poll_of poll.Due = value.Due
poll_of poll.Waits = value.Waits

abbrev pub sender_value : Inside → SenderValue
sender_value s = record {
  reserved = s.window.reserved;
  agreed = s.window.agreed;
  sender = record {
    first = s.first;
    unacked = s.window.unacked;
    next = s.window.next;
    fresh = s.window.fresh;
    poll = poll_of s.poll;
    polls = s.polls;
    busy = s.busy;
  };
}

-- without a wait no poll was given; one that is to be given was given less often than may be
abbrev pub IsPolled : Poll → ℕ → Type 0
IsPolled poll.Nothing polls = polls ≡ 0
IsPolled poll.Due polls = polls < 255
IsPolled poll.Waits polls = Unit {0}

pub record IsSender (s : Inside) : Type 0 where
  pub first : s.first < 64
  pub polls : IsPolled s.poll s.polls

-- ---- the timer

-- whether the poll was given as often as may be
abbrev pub is_exhausted : value.Poll → (tries polls : ℕ) → Bool
is_exhausted value.NoPoll tries polls = false
is_exhausted value.Due tries polls = false
is_exhausted value.Waits tries polls = nat_le tries polls

abbrev pub poll_fired : value.Poll → List value.Kept → value.Poll
poll_fired value.NoPoll [] = value.NoPoll
poll_fired value.NoPoll (kept ∷ behind) = value.Due
poll_fired value.Due unacked = value.Due
poll_fired value.Waits unacked = value.Due

abbrev pub fired : Bool → SenderValue → SenderValue
fired true s = s
fired false s = record s { sender = record s.sender { poll = poll_fired s.sender.poll s.sender.unacked } }

pub record Fires (old : SenderValue) (result : Bool) (new : SenderValue) : Type 0 where
  pub limit : result ≡ is_exhausted old.sender.poll old.agreed.tries old.sender.polls
  pub after : new ≡ fired result old

-- ---- what is given

abbrev pub is_due : value.Poll → Bool
is_due value.NoPoll = false
is_due value.Due = true
is_due value.Waits = false

abbrev pub polled : Bool → SenderValue → SenderValue
polled true s = record s { sender = record s.sender { poll = value.Waits; polls = s.sender.polls + 1 } }
polled false s = s

pub record Polls (old : SenderValue) (result : Bool) (new : SenderValue) : Type 0 where
  pub due : result ≡ is_due old.sender.poll
  pub after : new ≡ polled result old

-- the sender once an I-frame was given
abbrev pub given_new : Bool → List Segment → value.Sender → Option value.Sender
given_new true [] s = None
given_new false fresh s = None
given_new true (segment ∷ behind) s = Some (record s {
  unacked = s.unacked ++ record { segment = segment; given = 1 } ∷ [];
  next = s.next + 1;
  fresh = behind;
})

abbrev pub given_by : Option value.Kept → ℕ → value.Sender → Option value.Sender
given_by (Some kept) size s = Some (record s { unacked = giving.given_again s.next s.unacked; next = s.next + 1 })
given_by None size s = given_new (nat_lt (length s.unacked) size) s.fresh s

abbrev pub given_ready : Bool → ℕ → value.Sender → Option value.Sender
given_ready true size s = None
given_ready false size s = given_by (slice_get s.unacked s.next) size s

abbrev pub given : value.Poll → ℕ → value.Sender → Option value.Sender
given value.NoPoll size s = given_ready s.busy size s
given value.Due size s = None
given value.Waits size s = None

abbrev pub AdvancesTo : Option value.Sender → SenderValue → Bool → SenderValue → Type 0
AdvancesTo None old moved new = (moved ≡ false) × (new ≡ old)
AdvancesTo (Some after) old moved new = (moved ≡ true) × (new ≡ record old { sender = after })

abbrev pub Advances : SenderValue → Bool → SenderValue → Type 0
Advances old moved new = AdvancesTo (given old.sender.poll old.agreed.send_window old.sender) old moved new

-- whether a sender has something to give: a poll, or else an I-frame, while none is awaited and the peer is ready
abbrev pub has_data : ℕ → value.Sender → Bool
has_data size s = nat_lt s.next (length s.unacked) || (nat_lt (length s.unacked) size && is_some_fresh s.fresh)

abbrev pub has_next_by : value.Poll → SenderValue → Bool
has_next_by value.NoPoll s = not s.sender.busy && has_data s.agreed.send_window s.sender
has_next_by value.Due s = true
has_next_by value.Waits s = false

abbrev pub has_next : SenderValue → Bool
has_next s = has_next_by s.sender.poll s
