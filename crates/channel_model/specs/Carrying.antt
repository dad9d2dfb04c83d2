-- What a host makes of a PDU on one of its channels (Core 5.1, Volume 3 Part A, 3.1, 3.3 and 8.6).
use Rattle.std.specs.Prelude.{ℕ, Bool, true, false, List, drop, Option, Some, None, Ok, Err, if◌then◌else◌}
use Rattle.ertm_frames.specs.Answers.{Answer}
use Rattle.ertm_frames.specs.Reading.{answer_in}
use Rattle.ertm_model.specs.declared.reason.ErtmReason.{ErtmReason}
use Rattle.ertm_model.specs.declared.reason.ErtmReason.TheVariants as machines
use Rattle.ertm_model.specs.Value.{Ertm}
use Rattle.ertm_model.specs.Hearing.{heard, answer_to, refused, PlainHeard, nothing, sdu, closed}
use Rattle.channel_model.specs.declared.event.CloseReason.{CloseReason}
use Rattle.channel_model.specs.declared.event.CloseReason.TheVariants as reasons
use Rattle.channel_model.specs.Value.{Own, Unasked, Asking, Granted, Carrier, Plain, Retransmitting, Setup, Stage, Requested, Connected, Leaving, Closing, Crossed, Held, Channels}
use Rattle.channel_model.specs.Changing.{held_at, setup_of, with_setup, to_setup}
use Rattle.channel_model.specs.Closing.{closes}
use Rattle.channel_model.specs.Configuring.{grants, granted_setup}

-- ---- machines

-- a machine that gave something as often as may be closes its channel as any other request does
abbrev pub reason_of : ErtmReason → CloseReason
reason_of machines.BadReqSeq = reasons.Ertm machines.BadReqSeq
reason_of machines.Srej = reasons.Ertm machines.Srej
reason_of machines.BadSegment = reasons.Ertm machines.BadSegment
reason_of machines.RetryLimit = reasons.RetryLimit
reason_of machines.TooLongSdu = reasons.Ertm machines.TooLongSdu
reason_of machines.BadFrame = reasons.Ertm machines.BadFrame

abbrev pub settles_machine : Option ErtmReason → Ertm → Held → Setup → Channels → Channels
settles_machine None machine held setup v = to_setup held (record setup { carrier = Some (Retransmitting machine) }) v
settles_machine (Some reason) machine held setup v = closes (reason_of reason) held v

-- the machine of a channel has changed: one that is closed closes its channel
abbrev pub with_machine : Ertm → Held → Setup → Channels → Channels
with_machine machine held setup v = settles_machine machine.closed machine held setup v

-- what the octets of a PDU are for a machine
abbrev pub read_by : Ertm → List ℕ → Answer
read_by machine pdu = answer_in machine.agreed.receive_mps pdu

abbrev pub machine_heard : Answer → Ertm → Ertm
machine_heard (Ok frame) machine = heard frame machine
machine_heard (Err refusal) machine = refused refusal machine

-- ---- a PDU on an open channel

abbrev pub carries : Carrier → List ℕ → Held → Setup → Channels → Channels
carries (Plain agreed waiting) pdu held setup v = v
carries (Retransmitting machine) pdu held setup v = with_machine (machine_heard (read_by machine pdu) machine) held setup v

-- A peer sends on a channel only once it has answered the own request, so a PDU shows that it was accepted. Where frames are
-- expected a frame alone shows it (this project's own).
abbrev pub is_frame : Answer → Bool
is_frame (Ok frame) = true
is_frame (Err refusal) = false

abbrev pub shows : Carrier → List ℕ → Bool
shows (Plain agreed waiting) pdu = true
shows (Retransmitting machine) pdu = is_frame (read_by machine pdu)

-- whether the channel takes the PDU: it is open, or the PDU shows that it is
abbrev pub is_taken_with : Own → Carrier → List ℕ → Bool
is_taken_with Unasked carrier pdu = false
is_taken_with (Asking request options) carrier pdu = shows carrier pdu
is_taken_with Granted carrier pdu = true

abbrev pub opens_with : Own → Held → Setup → Channels → Channels
opens_with Unasked held setup v = v
opens_with (Asking request options) held setup v = grants held setup v
opens_with Granted held setup v = v

abbrev pub takes_with : Option Carrier → List ℕ → Held → Setup → Channels → Channels
takes_with None pdu held setup v = v
takes_with (Some carrier) pdu held setup v =
    if is_taken_with setup.own carrier pdu
    then carries carrier pdu (with_setup held (granted_setup setup)) (granted_setup setup) (opens_with setup.own held setup v)
    else v

abbrev pub takes_on : Option Setup → List ℕ → Held → Channels → Channels
takes_on None pdu held v = v
takes_on (Some setup) pdu held v = takes_with setup.carrier pdu held setup v

-- a PDU comes in for an own endpoint; without a channel there, or before the peer's options are accepted, it is ignored
abbrev pub takes_held : Option Held → List ℕ → Channels → Channels
takes_held None pdu v = v
takes_held (Some held) pdu v = takes_on (setup_of held.stage) pdu held v

abbrev pub takes : (own : ℕ) → List ℕ → Channels → Channels
takes own pdu v = takes_held (held_at own v) pdu v

-- ---- what is handed up

pub data Up : Type 0 where
  Nothing : Up
  Received : (own psm : ℕ) (sdu : List ℕ) → Up

abbrev pub sdu_heard : PlainHeard → Option (List ℕ)
sdu_heard nothing = None
sdu_heard (sdu octets) = Some octets
sdu_heard (closed reason) = None

abbrev pub machine_sdu : Answer → Ertm → Option (List ℕ)
machine_sdu (Ok frame) machine = sdu_heard (answer_to frame machine)
machine_sdu (Err refusal) machine = None

-- in basic mode what follows the header of four octets (3.1), however long; else the SDU that the frame ends
abbrev pub carried_sdu : Carrier → List ℕ → Option (List ℕ)
carried_sdu (Plain agreed waiting) pdu = Some (drop 4 pdu)
carried_sdu (Retransmitting machine) pdu = machine_sdu (read_by machine pdu) machine

abbrev pub sdu_with : Option Carrier → Own → List ℕ → Option (List ℕ)
sdu_with None own pdu = None
sdu_with (Some carrier) own pdu = if is_taken_with own carrier pdu then carried_sdu carrier pdu else None

-- from the moment that the host asked for its end a channel hands nothing up
abbrev pub sdu_at : Stage → List ℕ → Option (List ℕ)
sdu_at (Requested request) pdu = None
sdu_at (Connected peer setup) pdu = sdu_with setup.carrier setup.own pdu
sdu_at (Leaving peer setup request) pdu = None
sdu_at (Closing peer request checked) pdu = None
sdu_at (Crossed peer request) pdu = None

abbrev pub up_by : Option (List ℕ) → Held → Up
up_by None held = Nothing
up_by (Some octets) held = Received held.own held.psm octets

abbrev pub up_on : Option Held → List ℕ → Up
up_on None pdu = Nothing
up_on (Some held) pdu = up_by (sdu_at held.stage pdu) held

abbrev pub up_at : (own : ℕ) → List ℕ → Channels → Up
up_at own pdu v = up_on (held_at own v) pdu
