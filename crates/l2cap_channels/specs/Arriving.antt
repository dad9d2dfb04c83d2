-- What comes in on a channel.
use Rattle.std.specs.Prelude.{ℕ, ◌≡◌, Bool, true, false, List, slice_get, Option, Some, None}
use Rattle.ertm_frames.specs.Frames.{PlainFrame}
use Rattle.ertm_model.specs.declared.reason.ErtmReason.{ErtmReason}
use Rattle.ertm_model.specs.Hearing.{PlainHeard, nothing, fault, heard, answer_to}
use Rattle.ertm_machine.specs.declared.answers.Heard.{Heard}
use Rattle.ertm_machine.specs.Machines.{plain_heard}
use Rattle.channel_model.specs.Value.{Own, Unasked, Asking, Granted, Carrier, Plain, Retransmitting, Setup, Stage, Requested, Connected, Leaving, Closing, Crossed, Held, Channels}
use Rattle.channel_model.specs.Changing.{to_stage}
use Rattle.channel_model.specs.Closing.{closes}
use Rattle.channel_model.specs.Carrying.{Up, Nothing, Received, reason_of, opens_with, takes_held, sdu_heard, up_by, up_on}
use Rattle.channel_model.specs.Hearing.{hears, up}
use Rattle.l2cap_channels.specs.declared.up.Up.{Up as Kept}
use Rattle.l2cap_channels.specs.declared.up.Up.TheVariants as kept
use Rattle.l2cap_channels.specs.Finding.{on_place}
use Rattle.l2cap_channels.specs.Machine.{Machine, policy_of, with_channels}
use Rattle.l2cap_channels.specs.Steps.{with_change}

-- what is handed up, without where its octets lie
abbrev pub plain_up : Kept → Up
plain_up kept.Nothing = Nothing
plain_up (kept.Received own psm sdu) = Received own psm sdu.now

-- ---- the own request for options is accepted where it waits

abbrev pub opened_own : Own → Own
opened_own Unasked = Unasked
opened_own (Asking request options) = Granted
opened_own Granted = Granted

abbrev pub opened_setup : Setup → Setup
opened_setup setup = record setup { own = opened_own setup.own }

abbrev pub opened : Held → Held
opened held = record held { stage = with_change opened_setup held.stage }

abbrev pub opens : Held → Setup → Channels → Channels
opens held setup v = opens_with setup.own held setup v

-- ---- an SDU that came whole

-- from the moment that the host asked for its end a channel hands nothing up
abbrev pub is_connected : Stage → Bool
is_connected (Requested request) = false
is_connected (Connected peer setup) = true
is_connected (Leaving peer setup request) = false
is_connected (Closing peer request checked) = false
is_connected (Crossed peer request) = false

abbrev pub handed_at : Stage → List ℕ → Option (List ℕ)
handed_at (Requested request) sdu = None
handed_at (Connected peer setup) sdu = Some sdu
handed_at (Leaving peer setup request) sdu = None
handed_at (Closing peer request checked) sdu = None
handed_at (Crossed peer request) sdu = None

abbrev pub handed_up : Option Held → List ℕ → Up
handed_up None sdu = Nothing
handed_up (Some held) sdu = up_by (handed_at held.stage sdu) held

-- ---- a frame

-- why it closes the machine
abbrev pub carrier_fault : Option Carrier → PlainFrame → Option ErtmReason
carrier_fault None frame = None
carrier_fault (Some (Plain agreed waiting)) frame = None
carrier_fault (Some (Retransmitting machine)) frame = fault frame machine

abbrev pub fault_on : Option Setup → PlainFrame → Option ErtmReason
fault_on None frame = None
fault_on (Some setup) frame = carrier_fault setup.carrier frame

-- the machine once it heard the frame, and what it answers
abbrev pub carrier_heard : Option Carrier → PlainFrame → Option Carrier
carrier_heard None frame = None
carrier_heard (Some (Plain agreed waiting)) frame = Some (Plain agreed waiting)
carrier_heard (Some (Retransmitting machine)) frame = Some (Retransmitting (heard frame machine))

abbrev pub carrier_answer : Option Carrier → PlainFrame → PlainHeard
carrier_answer None frame = nothing
carrier_answer (Some (Plain agreed waiting)) frame = nothing
carrier_answer (Some (Retransmitting machine)) frame = answer_to frame machine

pub record HearsLine (old : Option Carrier) (frame : PlainFrame) (result : Heard) (new : Option Carrier) : Type 0 where
  pub answer : plain_heard result ≡ carrier_answer old frame
  pub after : new ≡ carrier_heard old frame

abbrev pub heard_setup : PlainFrame → Setup → Setup
heard_setup frame setup = record setup { carrier = carrier_heard setup.carrier frame }

abbrev pub frame_sdu : Stage → PlainFrame → Option (List ℕ)
frame_sdu (Requested request) frame = None
frame_sdu (Connected peer setup) frame = sdu_heard (carrier_answer setup.carrier frame)
frame_sdu (Leaving peer setup request) frame = None
frame_sdu (Closing peer request checked) frame = None
frame_sdu (Crossed peer request) frame = None

abbrev pub frame_up : Option Held → PlainFrame → Up
frame_up None frame = Nothing
frame_up (Some held) frame = up_by (frame_sdu held.stage frame) held

pub record HearsPlace (old : Held) (frame : PlainFrame) (result : Kept) (new : Held) : Type 0 where
  pub up : plain_up result ≡ up_by (frame_sdu old.stage frame) old
  pub after : new ≡ record old { stage = with_change (heard_setup frame) old.stage }

pub record HearsFrame (old : Machine) (at : ℕ) (frame : PlainFrame) (result : Kept) (new : Machine) : Type 0 where
  pub up : plain_up result ≡ frame_up (slice_get old.channels.held at) frame
  pub after : new ≡ with_channels old (on_place (λ held. to_stage held (with_change (heard_setup frame) held.stage)) (slice_get old.channels.held at) old.channels)

-- ---- no frame, where a machine expects one

abbrev pub refused_at : Option ErtmReason → Option Held → Channels → Channels
refused_at None held v = v
refused_at (Some reason) held v = on_place (closes (reason_of reason)) held v

-- ---- a PDU

-- on the channel at a place
pub record HearsAt (old : Machine) (at : ℕ) (pdu : List ℕ) (result : Kept) (new : Machine) : Type 0 where
  pub up : plain_up result ≡ up_on (slice_get old.channels.held at) pdu
  pub after : new ≡ with_channels old (takes_held (slice_get old.channels.held at) pdu old.channels)

-- for an endpoint
pub record Hears (old : Machine) (endpoint : ℕ) (pdu : List ℕ) (result : Kept) (new : Machine) : Type 0 where
  pub up : plain_up result ≡ up endpoint pdu old.channels
  pub after : new ≡ with_channels old (hears (policy_of old) endpoint pdu old.channels)
