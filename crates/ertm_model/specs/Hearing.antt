-- What a machine makes of a frame that comes in (Core 5.1, Volume 3 Part A, 8.6.5).
use Rattle.std.specs.Prelude.{ℕ, ◌+◌, ◌-◌, ◌%◌, ◌==◌, Bool, true, false, ◌&&◌, ◌||◌, List, [], ◌∷◌, length, drop, nat_lt, nat_le, Option, Some, None, if◌then◌else◌}
use Rattle.ertm_frames.specs.declared.frame.SKind.{SKind}
use Rattle.ertm_frames.specs.declared.frame.SKind.TheVariants.{Rr, Rej, Rnr, Srej}
use Rattle.ertm_frames.specs.declared.refusal.FrameRefusal.{FrameRefusal}
use Rattle.ertm_frames.specs.declared.refusal.FrameRefusal.TheVariants.{Short, BadFcs, ReservedSet, BadStart, AboveMps}
use Rattle.ertm_frames.specs.Frames.{PlainFrame, information, supervisory}
use Rattle.ertm_frames.specs.Segments.{Segment}
use Rattle.ertm_frames.specs.Picking.{req_of, is_final}
use Rattle.ertm_frames.specs.Joining.{Begun, Joint, Misplaced, Begins, Ends, joint}
use Rattle.ertm_model.specs.declared.reason.ErtmReason.{ErtmReason}
use Rattle.ertm_model.specs.declared.reason.ErtmReason.TheVariants as reason
use Rattle.ertm_model.specs.Value.{Kept, Poll, NoPoll, Due, Waits, Sender, Acknowledges, Rejects, Receiver, Ertm}
use Rattle.ertm_model.specs.Giving.{closing}

-- ---- what a frame says

abbrev pub is_rej : SKind → Bool
is_rej Rr = false
is_rej Rej = true
is_rej Rnr = false
is_rej Srej = false

abbrev pub rejects_frames : PlainFrame → Bool
rejects_frames (information tx final req sar total octets) = false
rejects_frames (supervisory kind poll final req) = is_rej kind

abbrev pub is_srej : SKind → Bool
is_srej Rr = false
is_srej Rej = false
is_srej Rnr = false
is_srej Srej = true

abbrev pub selects_frames : PlainFrame → Bool
selects_frames (information tx final req sar total octets) = false
selects_frames (supervisory kind poll final req) = is_srej kind

-- whether the peer is not ready: RNR says so, RR and REJ that it is again, and other frames say nothing of it
abbrev pub busy_by : SKind → Bool → Bool
busy_by Rr busy = false
busy_by Rej busy = false
busy_by Rnr busy = true
busy_by Srej busy = busy

abbrev pub busy_after : PlainFrame → Bool → Bool
busy_after (information tx final req sar total octets) busy = busy
busy_after (supervisory kind poll final req) busy = busy_by kind busy

-- how many steps a number modulo 64 lies past another
abbrev pub past : (from to : ℕ) → ℕ
past from to = (to + 64 - from) % 64

-- ---- the sender

-- how many I-frames a frame acknowledges: those before its ReqSeq
abbrev pub acknowledged : PlainFrame → Sender → ℕ
acknowledged frame s = past s.first (req_of frame)

-- Whether all frames that are not acknowledged are to be given again. Without a wait a REJ asks for it; in a wait the
-- frame with F that ends it does, and a REJ without F only acknowledges.
abbrev pub asks_again : Poll → PlainFrame → Bool
asks_again NoPoll frame = rejects_frames frame
asks_again Due frame = is_final frame
asks_again Waits frame = is_final frame

-- a frame with F ends the wait, and takes back a poll that was not given yet; the count of polls begins anew
abbrev pub poll_after : PlainFrame → Poll → Poll
poll_after frame poll = if is_final frame then NoPoll else poll

abbrev pub sender_after : PlainFrame → Sender → Sender
sender_after frame s = record {
  first = (s.first + acknowledged frame s) % 64;
  unacked = drop (acknowledged frame s) s.unacked;
  next = if asks_again s.poll frame then 0 else s.next - acknowledged frame s;
  fresh = s.fresh;
  poll = poll_after frame s.poll;
  polls = if is_final frame then 0 else s.polls;
  busy = busy_after frame s.busy;
}

-- one of the frames was given as often as may be
abbrev pub is_spent : ℕ → List Kept → Bool
is_spent tries [] = false
is_spent tries (kept ∷ behind) = nat_le tries kept.given || is_spent tries behind

-- Why a frame closes, by what it says to the sender: its ReqSeq is not between the first frame that is not
-- acknowledged and the next new one; it selects frames, which was not agreed on; or it asks for a frame that was
-- given as often as may be.
abbrev pub sender_fault : ℕ → PlainFrame → Sender → Option ErtmReason
sender_fault tries frame s =
    if nat_lt (length s.unacked) (acknowledged frame s) then Some reason.BadReqSeq
    else (if selects_frames frame then Some reason.Srej
    else (if asks_again s.poll frame && is_spent tries (drop (acknowledged frame s) s.unacked) then Some reason.RetryLimit else None))

-- ---- the receiver

-- where an I-frame's number stands to the expected one
pub data Place : Type 0 where
  Expected : Place
  -- frames before it are missing
  Ahead : Place
  -- it is a repeat, or there is no telling
  Other : Place

-- A number so many steps past the expected one is ahead where it lies in the receive window and could not be that of a
-- repeat, for a repeat is at most a window behind. In place of 8.6.1.2 and 8.6.1.3 this one rule serves all windows
-- to 63 (this project's own).
abbrev pub place_of : (window steps : ℕ) → Place
place_of window steps =
    if steps == 0 then Expected else (if nat_lt steps window && nat_lt (steps + window) 64 then Ahead else Other)

-- the length of the SDU that a segment begins or is
abbrev pub stated : Segment → ℕ
stated segment = if segment.sar == 0 then length segment.octets else segment.total

abbrev pub joint_fault : Joint → (mtu : ℕ) → Segment → Option ErtmReason
joint_fault Misplaced mtu segment = Some reason.BadSegment
joint_fault (Begins begun) mtu segment = if nat_lt mtu (stated segment) then Some reason.TooLongSdu else None
joint_fault (Ends sdu) mtu segment = if nat_lt mtu (stated segment) then Some reason.TooLongSdu else None

abbrev pub place_fault : Place → (mtu : ℕ) → Segment → Receiver → Option ErtmReason
place_fault Expected mtu segment r = joint_fault (joint r.begun segment) mtu segment
place_fault Ahead mtu segment r = None
place_fault Other mtu segment r = None

-- the I-frame's place
abbrev pub place_in : Ertm → (tx : ℕ) → Place
place_in m tx = place_of m.agreed.receive_window (past m.receiver.expected tx)

-- the segment that an I-frame carries
abbrev pub segment_of : (sar total : ℕ) → List ℕ → Segment
segment_of sar total octets = record { sar = sar; total = total; octets = octets }

-- Why a frame closes, by what it brings to the receiver: the expected I-frame has a segment without a place, or of an
-- SDU that is too long.
abbrev pub receiver_fault : PlainFrame → Ertm → Option ErtmReason
receiver_fault (information tx final req sar total octets) m = place_fault (place_in m tx) m.agreed.receive_mtu (segment_of sar total octets) m.receiver
receiver_fault (supervisory kind poll final req) m = None

abbrev pub begun_after : Joint → Option Begun
begun_after Misplaced = None
begun_after (Begins begun) = Some begun
begun_after (Ends sdu) = None

-- the expected frame is accepted, ends a REJ condition and is acknowledged; one that is ahead is rejected, unless a
-- REJ is outstanding; of what is to be replied the later replaces the earlier
abbrev pub placed_after : Place → Segment → Receiver → Receiver
placed_after Expected segment r = record {
  expected = (r.expected + 1) % 64;
  polled = r.polled;
  reply = Acknowledges;
  rejecting = false;
  begun = begun_after (joint r.begun segment);
}
placed_after Ahead segment r = if r.rejecting then r else record r { reply = Rejects; rejecting = true }
placed_after Other segment r = r

-- a poll is to be answered
abbrev pub receiver_after : PlainFrame → Ertm → Receiver
receiver_after (information tx final req sar total octets) m = placed_after (place_in m tx) (segment_of sar total octets) m.receiver
receiver_after (supervisory kind poll final req) m = record m.receiver { polled = poll || m.receiver.polled }

-- ---- both

abbrev pub or_else : Option ErtmReason → Option ErtmReason → Option ErtmReason
or_else None other = other
or_else (Some reason) other = Some reason

-- why a frame closes an open machine: the sender's causes come first
abbrev pub fault : PlainFrame → Ertm → Option ErtmReason
fault frame m = or_else (sender_fault m.agreed.tries frame m.sender) (receiver_fault frame m)

abbrev pub heard_by : Option ErtmReason → PlainFrame → Ertm → Ertm
heard_by (Some cause) frame m = closing cause m
heard_by None frame m = record m { sender = sender_after frame m.sender; receiver = receiver_after frame m }

abbrev pub open_heard : Option ErtmReason → PlainFrame → Ertm → Ertm
open_heard (Some cause) frame m = m
open_heard None frame m = heard_by (fault frame m) frame m

-- the machine once a frame was heard: one that closes changes nothing else, and a closed machine stays as it is
abbrev pub heard : PlainFrame → Ertm → Ertm
heard frame m = open_heard m.closed frame m

-- ---- and what it answers

abbrev pub sdu_by : Joint → Option (List ℕ)
sdu_by Misplaced = None
sdu_by (Begins begun) = None
sdu_by (Ends sdu) = Some sdu

abbrev pub placed_sdu : Place → Segment → Receiver → Option (List ℕ)
placed_sdu Expected segment r = sdu_by (joint r.begun segment)
placed_sdu Ahead segment r = None
placed_sdu Other segment r = None

-- the SDU that a frame brings to its end
abbrev pub sdu_in : PlainFrame → Ertm → Option (List ℕ)
sdu_in (information tx final req sar total octets) m = placed_sdu (place_in m tx) (segment_of sar total octets) m.receiver
sdu_in (supervisory kind poll final req) m = None

-- nothing; an SDU that is whole now; or why the machine is closed
pub data PlainHeard : Type 0 where
  nothing : PlainHeard
  sdu : (octets : List ℕ) → PlainHeard
  closed : (reason : ErtmReason) → PlainHeard

abbrev pub sdu_answer : Option (List ℕ) → PlainHeard
sdu_answer None = nothing
sdu_answer (Some octets) = sdu octets

abbrev pub answer_by : Option ErtmReason → PlainFrame → Ertm → PlainHeard
answer_by (Some cause) frame m = closed cause
answer_by None frame m = sdu_answer (sdu_in frame m)

-- what is answered to a frame
abbrev pub answer_to : PlainFrame → Ertm → PlainHeard
answer_to frame m = answer_by (heard frame m).closed frame m

-- ---- a PDU that is no frame

-- A damaged PDU is dropped, as if it were lost; any other that is no frame closes (this project's own).
abbrev pub refusal_fault : FrameRefusal → Option ErtmReason
refusal_fault Short = None
refusal_fault BadFcs = None
refusal_fault ReservedSet = Some reason.BadFrame
refusal_fault BadStart = Some reason.BadFrame
refusal_fault AboveMps = Some reason.BadFrame

abbrev pub closed_by : Option ErtmReason → Option ErtmReason → Ertm → Ertm
closed_by (Some cause) fault m = m
closed_by None None m = m
closed_by None (Some fault) m = closing fault m

abbrev pub refused : FrameRefusal → Ertm → Ertm
refused refusal m = closed_by m.closed (refusal_fault refusal) m
