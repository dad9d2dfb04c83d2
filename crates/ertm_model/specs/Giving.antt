-- What a machine gives next, and what its timer does (Core 5.1, Volume 3 Part A, 8.6.5).
use Rattle.std.specs.Prelude.{ℕ, zero, suc, ◌+◌, ◌%◌, Bool, true, false, List, [], ◌∷◌, ◌++◌, length, nat_lt, nat_le, slice_get, Option, Some, None, if◌then◌else◌}
use Rattle.ertm_frames.specs.declared.frame.SKind.TheVariants.{Rr, Rej}
use Rattle.ertm_frames.specs.Frames.{PlainFrame, information, supervisory}
use Rattle.ertm_frames.specs.Segments.{Segment}
use Rattle.ertm_model.specs.declared.reason.ErtmReason.{ErtmReason}
use Rattle.ertm_model.specs.declared.reason.ErtmReason.TheVariants.{RetryLimit}
use Rattle.ertm_model.specs.Value.{Kept, Poll, NoPoll, Due, Waits, Reply, NoReply, Acknowledges, Rejects, Ertm}

-- what is given: an RR with F, which answers a poll; an RR; a REJ; an RR with P, which is a poll; an I-frame that was
-- given before; one that was not, with the segments that wait behind it
pub data Giving : Type 0 where
  PollAnswer : Giving
  Acknowledgement : Giving
  Rejection : Giving
  Polling : Giving
  Again : (kept : Kept) → Giving
  New : (segment : Segment) (behind : List Segment) → Giving

-- a new I-frame is given while the window has room
abbrev pub new_giving : Bool → List Segment → Option Giving
new_giving room [] = None
new_giving room (segment ∷ behind) = if room then Some (New segment behind) else None

abbrev pub data_giving : Option Kept → Ertm → Option Giving
data_giving (Some kept) m = Some (Again kept)
data_giving None m = new_giving (nat_lt (length m.sender.unacked) m.agreed.send_window) m.sender.fresh

-- while the answer to a poll is awaited, or the peer is not ready, no I-frame is given
abbrev pub poll_giving : Poll → Ertm → Option Giving
poll_giving Due m = Some Polling
poll_giving Waits m = None
poll_giving NoPoll m = if m.sender.busy then None else data_giving (slice_get m.sender.unacked m.sender.next) m

abbrev pub reply_giving : Reply → Ertm → Option Giving
reply_giving Acknowledges m = Some Acknowledgement
reply_giving Rejects m = Some Rejection
reply_giving NoReply m = poll_giving m.sender.poll m

abbrev pub open_giving : Option ErtmReason → Ertm → Option Giving
open_giving (Some reason) m = None
open_giving None m = if m.receiver.polled then Some PollAnswer else reply_giving m.receiver.reply m

-- what is given next, if anything: the answer to a poll first, then RR or REJ, then a poll, then I-frames; a closed
-- machine gives nothing
abbrev pub giving : Ertm → Option Giving
giving m = open_giving m.closed m

-- ---- the frame

-- the number of the I-frame that is given next
abbrev pub next_number : Ertm → ℕ
next_number m = (m.sender.first + m.sender.next) % 64

abbrev pub data_frame : Segment → Ertm → PlainFrame
data_frame segment m = information (next_number m) false m.receiver.expected segment.sar segment.total segment.octets

-- each frame acknowledges what was received before it
abbrev pub given_frame : Giving → Ertm → PlainFrame
given_frame PollAnswer m = supervisory Rr false true m.receiver.expected
given_frame Acknowledgement m = supervisory Rr false false m.receiver.expected
given_frame Rejection m = supervisory Rej false false m.receiver.expected
given_frame Polling m = supervisory Rr true false m.receiver.expected
given_frame (Again kept) m = data_frame kept.segment m
given_frame (New segment behind) m = data_frame segment m

-- ---- and the machine after it

-- the segment at a place was given once more
abbrev pub given_again : ℕ → List Kept → List Kept
given_again place [] = []
given_again zero (kept ∷ behind) = record { segment = kept.segment; given = kept.given + 1 } ∷ behind
given_again (suc place) (kept ∷ behind) = kept ∷ given_again place behind

abbrev pub replied : Ertm → Ertm
replied m = record m { receiver = record m.receiver { reply = NoReply } }

abbrev pub after_giving : Giving → Ertm → Ertm
after_giving PollAnswer m = record m { receiver = record m.receiver { polled = false } }
after_giving Acknowledgement m = replied m
after_giving Rejection m = replied m
after_giving Polling m = record m { sender = record m.sender { poll = Waits; polls = m.sender.polls + 1 } }
after_giving (Again kept) m =
    record m { sender = record m.sender { unacked = given_again m.sender.next m.sender.unacked; next = m.sender.next + 1 } }
after_giving (New segment behind) m = record m {
  sender = record m.sender {
    unacked = m.sender.unacked ++ record { segment = segment; given = 1 } ∷ [];
    next = m.sender.next + 1;
    fresh = behind;
  };
}

abbrev pub frame_by : Option Giving → Ertm → Option PlainFrame
frame_by None m = None
frame_by (Some given) m = Some (given_frame given m)

abbrev pub after_by : Option Giving → Ertm → Ertm
after_by None m = m
after_by (Some given) m = after_giving given m

-- the next frame, and the machine once it was given
abbrev pub next_frame : Ertm → Option PlainFrame
next_frame m = frame_by (giving m) m

abbrev pub after_frame : Ertm → Ertm
after_frame m = after_by (giving m) m

-- ---- the timer

abbrev pub closing : ErtmReason → Ertm → Ertm
closing reason m = record m { closed = Some reason }

abbrev pub polling : Ertm → Ertm
polling m = record m { sender = record m.sender { poll = Due } }

abbrev pub first_poll : List Kept → Ertm → Ertm
first_poll [] m = m
first_poll (kept ∷ behind) m = polling m

abbrev pub poll_timed : Poll → Ertm → Ertm
poll_timed NoPoll m = first_poll m.sender.unacked m
poll_timed Due m = m
poll_timed Waits m = if nat_le m.agreed.tries m.sender.polls then closing RetryLimit m else polling m

abbrev pub open_timed : Option ErtmReason → Ertm → Ertm
open_timed (Some reason) m = m
open_timed None m = poll_timed m.sender.poll m

-- The timer fires. Where an I-frame is not acknowledged a poll is to be given, and again where its answer is awaited;
-- a poll that was given as often as may be closes. A poll that is still to be given stays so.
abbrev pub timed : Ertm → Ertm
timed m = open_timed m.closed m
