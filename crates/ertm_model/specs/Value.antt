-- One end of an enhanced channel, as a value (Core 5.1, Volume 3 Part A, 8.4 to 8.6).
use Rattle.std.specs.Prelude.{ℕ, Bool, false, ◌||◌, nat_lt, List, [], length, Option, None}
use Rattle.l2cap_config.specs.declared.wish.Agreed.{Agreed}
use Rattle.ertm_frames.specs.Segments.{Segment}
use Rattle.ertm_frames.specs.Joining.{Begun}
use Rattle.ertm_model.specs.declared.reason.ErtmReason.{ErtmReason}

-- a segment that is in the window, and how often it was given
pub record Kept : Type 0 where
  pub segment : Segment
  pub given : ℕ

-- the poll of a sender: there is none; one is to be given; one was given, and the frame with F is awaited
pub data Poll : Type 0 where
  NoPoll : Poll
  Due : Poll
  Waits : Poll

pub record Sender : Type 0 where
  -- the number modulo 64 of the first I-frame that is not acknowledged
  pub first : ℕ
  -- the segments that were given and are not acknowledged
  pub unacked : List Kept
  -- how many of these stand before the next one to be given
  pub next : ℕ
  -- the segments of the SDU that were never given
  pub fresh : List Segment
  pub poll : Poll
  -- how often a poll was given since the last frame with F came
  pub polls : ℕ
  -- the peer is not ready
  pub busy : Bool

-- the RR or REJ that a receiver has to give
pub data Reply : Type 0 where
  NoReply : Reply
  Acknowledges : Reply
  Rejects : Reply

pub record Receiver : Type 0 where
  -- the number modulo 64 of the I-frame that is expected
  pub expected : ℕ
  -- a poll came that is not answered
  pub polled : Bool
  pub reply : Reply
  -- a REJ is outstanding
  pub rejecting : Bool
  -- the SDU that has begun
  pub begun : Option Begun

pub record Ertm : Type 0 where
  pub agreed : Agreed
  pub sender : Sender
  pub receiver : Receiver
  pub closed : Option ErtmReason

abbrev pub new_sender : Sender
new_sender = record { first = 0; unacked = []; next = 0; fresh = []; poll = NoPoll; polls = 0; busy = false }

abbrev pub new_receiver : Receiver
new_receiver = record { expected = 0; polled = false; reply = NoReply; rejecting = false; begun = None }

-- a machine that is new, or was reset
abbrev pub new_ertm : Agreed → Ertm
new_ertm agreed = record { agreed = agreed; sender = new_sender; receiver = new_receiver; closed = None }

-- how many I-frames were given and are not acknowledged
abbrev pub window_used : Ertm → ℕ
window_used m = length m.sender.unacked

-- an I-frame is not acknowledged, or a poll was given and no frame with F came since
abbrev pub armed : Ertm → Bool
armed m = nat_lt 0 (length m.sender.unacked) || nat_lt 0 m.sender.polls
