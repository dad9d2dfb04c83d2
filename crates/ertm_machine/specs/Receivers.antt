-- What a receiver holds, hears and gives.
use Rattle.std.specs.Prelude.{ℕ, ◌≡◌, Bool, true, false, List, Option, Some, None, Result, Ok, Err}
use Rattle.std.specs.Option.{option_map}
use Rattle.l2cap_config.specs.declared.wish.Agreed.{Agreed}
use Rattle.ertm_frames.specs.declared.frame.Frame.{Frame}
use Rattle.ertm_frames.specs.declared.frame.SKind.TheVariants.{Rr, Rej}
use Rattle.ertm_frames.specs.Frames.{PlainFrame, supervisory, plain}
use Rattle.ertm_frames.specs.Segments.{Segment}
use Rattle.ertm_model.specs.declared.reason.ErtmReason.{ErtmReason}
use Rattle.ertm_model.specs.Value as value
use Rattle.ertm_model.specs.Hearing as hearing
use Rattle.ertm_machine.specs.declared.joiner.Taken.{Taken}
use Rattle.ertm_machine.specs.declared.receiver.Reply.{Reply}
use Rattle.ertm_machine.specs.declared.receiver.Reply.TheVariants as reply
use Rattle.ertm_machine.specs.declared.receiver.Place.{Place}
use Rattle.ertm_machine.specs.declared.receiver.Place.TheVariants as place
use Rattle.ertm_machine.specs.declared.receiver.Receiver.TheInside.{Inside}
use Rattle.ertm_machine.specs.Values.{ReceiverValue}
use Rattle.ertm_machine.specs.Joiners.{HandsUp}

abbrev pub reply_of : Reply → value.Reply
reply_of reply.Nothing = value.NoReply
reply_of reply.Acknowledges = value.Acknowledges
reply_of reply.Rejects = value.Rejects

abbrev pub place_of : Place → hearing.Place
place_of place.Expected = hearing.Expected
place_of place.Ahead = hearing.Ahead
place_of place.Other = hearing.Other

abbrev pub receiver_value : Inside → ReceiverValue
receiver_value r = record {
  room = r.joiner.room;
  receiver = record { expected = r.expected; polled = r.polled; reply = reply_of r.reply; rejecting = r.rejecting; begun = r.joiner.begun };
  joined = r.joiner.octets;
}

-- what an I-frame makes of a receiver, by the place of its number: an `Err` says why it closes, and changes nothing
abbrev pub HearsAt : hearing.Place → ReceiverValue → (mtu : ℕ) → Segment → Result Taken ErtmReason → ReceiverValue → Type 0
HearsAt place old mtu segment (Ok taken) new =
    (hearing.place_fault place mtu segment old.receiver ≡ None) × (new.room ≡ old.room) × (new.receiver ≡ hearing.placed_after place segment old.receiver)
    × HandsUp (hearing.placed_sdu place segment old.receiver) segment.octets new.joined taken
HearsAt place old mtu segment (Err reason) new = (hearing.place_fault place mtu segment old.receiver ≡ Some reason) × (new ≡ old)

abbrev pub Hears : ReceiverValue → Agreed → (tx : ℕ) → Segment → Result Taken ErtmReason → ReceiverValue → Type 0
Hears old agreed tx segment result new = HearsAt (hearing.place_of agreed.receive_window (hearing.past old.receiver.expected tx)) old agreed.receive_mtu segment result new

-- the S-frame that a receiver has to give, and the receiver once it was given
abbrev pub reply_frame : value.Reply → ℕ → Option PlainFrame
reply_frame value.NoReply req = None
reply_frame value.Acknowledges req = Some (supervisory Rr false false req)
reply_frame value.Rejects req = Some (supervisory Rej false false req)

abbrev pub own_frame : Bool → value.Reply → ℕ → Option PlainFrame
own_frame true reply req = Some (supervisory Rr false true req)
own_frame false reply req = reply_frame reply req

abbrev pub own_after : Bool → value.Receiver → value.Receiver
own_after true r = record r { polled = false }
own_after false r = record r { reply = value.NoReply }

pub record Replies (old : ReceiverValue) (result : Option Frame) (new : ReceiverValue) : Type 0 where
  pub frame : option_map plain result ≡ own_frame old.receiver.polled old.receiver.reply old.receiver.expected
  pub after : new ≡ record old { receiver = own_after old.receiver.polled old.receiver }

-- whether RR or REJ is to be given
abbrev pub replies : value.Reply → Bool
replies value.NoReply = false
replies value.Acknowledges = true
replies value.Rejects = true
