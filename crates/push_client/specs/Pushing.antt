-- A client with its parts, and what its calls answer.
use Rattle.std.specs.Prelude.{◌≡◌, ◌<◌, ◌≤◌, ◌^◌, ℕ, ◌&&◌, not, Bool, true, false, List, [], length, Option, Some, None, Result, IfOk, IfSome, if◌then◌else◌}
use Rattle.std.specs.Option.{option_map}
use Rattle.bt_base.specs.Counts.{HasCause}
use Rattle.bt_base.specs.Objects.{Object, octets_of}
use Rattle.bt_base.specs.declared.ports.PortFault.{PortFault}
use Rattle.push_model.specs.Client.{Client, begins}
use Rattle.push_model.specs.Payloads.{Payload, Octets, Framed}
use Rattle.push_model.specs.Steps as steps
use Rattle.push_model.specs.Steps.{Part, Stepped, is_muxed}
use Rattle.push_model.specs.declared.course.Contact.TheVariants.{Closing}
use Rattle.push_model.specs.declared.course.Stage.{Stage}
use Rattle.push_rooms.specs.Frames.{said_frame}
use Rattle.push_model.specs.rfcomm_frames.specs.Frames.{PlainFrame}
use Rattle.push_model.specs.rfcomm_model.specs.Machine.{leaves}
use Rattle.push_model.specs.rfcomm_model.specs.Saying.{next, after_next}
use Rattle.push_client.specs.Talking.{Suits}
use Rattle.push_client.specs.declared.step.Step.{Step}
use Rattle.push_client.specs.declared.step.Step.TheVariants.{Wait, MakeLink, AskFeatures, OpenChannel, SendSdu, CloseChannel, BreakLink, Ended, NoMemory}
use Rattle.push_client.specs.declared.client.PushClient.TheInside.{Inside}

abbrev pub client_of : Inside → Client
client_of s = record {
  transport = s.transport;
  tries = s.tries;
  stage = s.reception.dialog.course.stage;
  cause = s.reception.dialog.course.cause;
  name = s.name;
  size = s.size;
  query = s.query;
  left = s.left;
  psm = s.psm;
  channel = s.channel;
  limit = s.limit;
  contact = s.reception.dialog.contact;
  session = s.reception.dialog.session;
  going = s.reception.dialog.going;
  rest = s.outgoing;
  mux = s.mux;
  frame = s.frame;
  held = s.reception.assembler.held;
  given = s.given;
  failed = s.failed;
}

-- The assembler finds the packets that the session takes, the channel of the object takes any that may have to be sent, and
-- the multiplexer may be begun anew.
pub record IsSound (s : Inside) : Type 0 where
  pub suits : Suits s.reception.assembler s.reception.dialog
  pub limit : 255 ≤ s.limit
  pub first : 1 ≤ s.channel
  pub last : s.channel ≤ 30
  pub largest : 23 ≤ s.mux.largest

-- ---- steps

-- the SDU of the last step that had one
abbrev pub frame_said : Option PlainFrame → Payload
frame_said None = Octets []
frame_said (Some frame) = Framed frame

abbrev pub payload_in : Client → Payload
payload_in client = if is_muxed client then frame_said client.frame else Octets client.rest

abbrev pub step_of : Payload → Step → steps.Step
step_of payload Wait = steps.Wait
step_of payload MakeLink = steps.MakeLink
step_of payload AskFeatures = steps.AskFeatures
step_of payload (OpenChannel psm) = steps.OpenChannel psm
step_of payload (SendSdu psm) = steps.SendSdu psm payload
step_of payload (CloseChannel psm) = steps.CloseChannel psm
step_of payload BreakLink = steps.BreakLink
step_of payload (Ended outcome) = steps.Ended outcome
step_of payload NoMemory = steps.NoMemory

-- the shelf found no memory
abbrev pub wants_memory : Step → Bool
wants_memory Wait = false
wants_memory MakeLink = false
wants_memory AskFeatures = false
wants_memory (OpenChannel psm) = false
wants_memory (SendSdu psm) = false
wants_memory (CloseChannel psm) = false
wants_memory BreakLink = false
wants_memory (Ended outcome) = false
wants_memory NoMemory = true

abbrev pub gone : Client → Step → List Part → Stepped
gone client step parts = record { client = client; step = step_of (payload_in client) step; left = parts }

abbrev pub given_at : Stage → Client → Client
given_at stage client = record client { stage = stage; given = true }

-- the next frame of the multiplexer waits, if there is one
abbrev pub said_next : Client → Client
said_next client = record client { mux = after_next client.mux; frame = said_frame (next client.mux) }

-- the multiplexer is to be closed
abbrev pub left : Client → Client
left client = record client { mux = leaves client.mux; contact = Closing }

-- a call answered want of memory, and this is the first that did
abbrev pub fails_now : Client → Client → Bool
fails_now old new = not old.failed && new.failed

-- ---- a push begins

-- The shelf tells how long the object is, a number of four octets, or why it does not. A client that found no memory before does not ask it.
pub record Begins (old new : Client) (name : List ℕ) (content : Option (List Object)) (faults faults' shortages shortages' : ℕ) : Type 0 where
  pub size : Result ℕ PortFault
  pub client : new ≡ begins size name old
  pub few : IfOk size (λ n. n < 2 ^ 32)
  pub told : old.failed ≡ false → IfOk size (λ n. IfSome content (λ objects. option_map length (octets_of name objects) ≡ Some n))
  pub cause : old.failed ≡ false → HasCause faults faults' shortages shortages' size
  pub unasked : old.failed ≡ true → (faults' ≡ faults) × (shortages' ≡ shortages)
