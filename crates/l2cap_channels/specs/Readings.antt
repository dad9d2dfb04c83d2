-- What a PDU is for the channel that it came in for.
use Rattle.std.specs.Prelude.{ℕ, ◌≡◌, List, drop, Option, Some, None, Ok, Err}
use Rattle.ertm_frames.specs.Frames.{IsFrame}
use Rattle.ertm_frames.specs.Answers.{Answer, answer}
use Rattle.channel_model.specs.Value.{Own, Unasked, Asking, Granted, Carrier, Plain, Retransmitting, Setup, Held}
use Rattle.channel_model.specs.Calls.{setup_on}
use Rattle.channel_model.specs.Carrying.{read_by}
use Rattle.l2cap_channels.specs.declared.reading.Reading.{Reading}
use Rattle.l2cap_channels.specs.declared.reading.Reading.TheVariants as kept

-- a reading without where its octets lie
pub data PlainReading : Type 0 where
  Nothing : PlainReading
  Basic : (sdu : List ℕ) → PlainReading
  Framed : (found : Answer) → PlainReading

abbrev pub plain_reading : Reading → PlainReading
plain_reading kept.Nothing = Nothing
plain_reading (kept.Basic sdu) = Basic sdu.now
plain_reading (kept.Framed found) = Framed (answer found)

-- what a PDU is for what carries SDUs
abbrev pub reading_by : Option Carrier → List ℕ → PlainReading
reading_by None pdu = Nothing
reading_by (Some (Plain agreed waiting)) pdu = Basic (drop 4 pdu)
reading_by (Some (Retransmitting machine)) pdu = Framed (read_by machine pdu)

-- while the own request waits for its response, no frame is nothing
abbrev pub shown_by : PlainReading → PlainReading
shown_by Nothing = Nothing
shown_by (Basic sdu) = Basic sdu
shown_by (Framed (Ok frame)) = Framed (Ok frame)
shown_by (Framed (Err refusal)) = Nothing

-- how much of it is taken, by how far the own request is
abbrev pub taken_by : Own → PlainReading → PlainReading
taken_by Unasked reading = Nothing
taken_by (Asking request options) reading = shown_by reading
taken_by Granted reading = reading

abbrev pub taken_on : Option Setup → List ℕ → PlainReading
taken_on None pdu = Nothing
taken_on (Some setup) pdu = taken_by setup.own (reading_by setup.carrier pdu)

abbrev pub taken_at : Option Held → List ℕ → PlainReading
taken_at held pdu = taken_on (setup_on held) pdu

-- a frame that was read is one
abbrev pub IsRead : PlainReading → Type 0
IsRead Nothing = Unit {0}
IsRead (Basic sdu) = Unit {0}
IsRead (Framed (Ok frame)) = IsFrame frame
IsRead (Framed (Err refusal)) = Unit {0}

-- a machine that carries SDUs is not closed
abbrev pub IsOpenCarrier : Option Carrier → Type 0
IsOpenCarrier None = Unit {0}
IsOpenCarrier (Some (Plain agreed waiting)) = Unit {0}
IsOpenCarrier (Some (Retransmitting machine)) = machine.closed ≡ None

abbrev pub IsOpenOn : Option Setup → Type 0
IsOpenOn None = Unit {0}
IsOpenOn (Some setup) = IsOpenCarrier setup.carrier
