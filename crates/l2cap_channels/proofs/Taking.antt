-- What is read of a PDU.
use Rattle.std.proofs.Common.{◌≡◌, ℕ, List}
use Rattle.std.specs.Prelude.{Ok, Err}
use Rattle.bt_base.specs.Octets.{IsOctets}
use Rattle.ertm_frames.specs.Answers.{Answer, IsAnswer}
use Rattle.ertm_frames.specs.Reading.{answer_in}
use Rattle.ertm_frames.proofs.Spelled.{one-answer}
use Rattle.ertm_frames.proofs.WorkedOut.{answer-is_worked_out}
use Rattle.channel_model.specs.Value.{Own, Unasked, Asking, Granted}
use Rattle.l2cap_channels.specs.Readings.{PlainReading, Nothing, Basic, Framed, IsRead, taken_by}

pub answer_read : (mps : ℕ) (pdu : List ℕ) (given : Answer) → IsOctets pdu → IsAnswer mps pdu given → given ≡ answer_in mps pdu
answer_read mps pdu given octets is = one-answer mps pdu given (answer_in mps pdu) is (answer-is_worked_out mps pdu octets)

pub frame_read : (mps : ℕ) (pdu : List ℕ) (given : Answer) → IsAnswer mps pdu given → IsRead (Framed given)
frame_read mps pdu (Ok frame) is = (is.0.1).fits
frame_read mps pdu (Err refusal) is = tt

pub taken_read : (own : Own) (reading : PlainReading) → IsRead reading → IsRead (taken_by own reading)
taken_read Unasked reading is = tt
taken_read (Asking request options) Nothing is = tt
taken_read (Asking request options) (Basic sdu) is = tt
taken_read (Asking request options) (Framed (Ok frame)) is = is
taken_read (Asking request options) (Framed (Err refusal)) is = tt
taken_read Granted reading is = is
