-- How many frames may still come of what a multiplexer is and of what it hears: a number that each SDU heard lowers,
-- whatever it says, that no frame sent raises, and that only octets given and a closing raise.
use Rattle.std.specs.Prelude.{ℕ, ◌+◌, ◌/◌, ◌%◌, ◌==◌, ◌<◌, ◌≤◌, nat_lt, List, [], ◌∷◌, Option, Some, None, Ok, Err, if◌then◌else◌}
use Rattle.rfcomm_frames.specs.declared.frame.MuxKind.{MuxKind}
use Rattle.rfcomm_frames.specs.declared.frame.MuxKind.TheVariants.{Sabm, Ua, Dm, Disc, Uih}
use Rattle.rfcomm_frames.specs.declared.connection.Role.{Role}
use Rattle.rfcomm_frames.specs.declared.connection.Role.TheVariants.{Initiator, Responder}
use Rattle.rfcomm_frames.specs.declared.connection.Dlc.{Dlc}
use Rattle.rfcomm_frames.specs.declared.connection.Dlc.TheVariants.{Idle, Asked, Open, Ended}
use Rattle.rfcomm_frames.specs.Frames.{PlainFrame, bit}
use Rattle.rfcomm_frames.specs.Answers.{Answer}
use Rattle.rfcomm_frames.specs.Controls.{pn, msc, test, rpn, rls, nsc, other}
use Rattle.rfcomm_frames.specs.FrameReading.{MessageAnswer, messages, frame_answer, is_empty}
use Rattle.rfcomm_credits.specs.Accounts.{Credits, grant_of}
use Rattle.rfcomm_model.specs.declared.state.Command.{Command}
use Rattle.rfcomm_model.specs.declared.state.Command.TheVariants.{OpenControl, Agree, OpenUser, Signal, LeaveUser, LeaveControl}
use Rattle.rfcomm_model.specs.declared.state.Asks.{Asks}
use Rattle.rfcomm_model.specs.declared.state.Asks.TheVariants.{Nothing, Due, Awaited}
use Rattle.rfcomm_model.specs.Machine.{Mux, new_mux, sends, leaves}
use Rattle.rfcomm_model.specs.Hearing.{hears}
use Rattle.rfcomm_model.specs.Saying.{Said, next}

-- ---- a frame

-- a control message is answered where it is a command (TS 07.10, 5.4.6)
abbrev pub answered_once : MessageAnswer → ℕ
answered_once (Ok (pn command dlci flow priority timer frame retransmissions credits)) = bit command
answered_once (Ok (msc command dlci signals)) = bit command
answered_once (Ok (test command octets)) = bit command
answered_once (Ok (rpn command value)) = bit command
answered_once (Ok (rls command value)) = bit command
answered_once (Ok (nsc kind)) = 0
answered_once (Ok (other kind value)) = bit (kind / 2 % 2 == 1)
answered_once (Err refusal) = 0

abbrev pub answers_to : List MessageAnswer → ℕ
answers_to [] = 0
answers_to (message ∷ rest) = answered_once message + answers_to rest

-- what may come of a frame at once: the answer to a command, the answers to control messages, or a grant for information
abbrev pub comes_of : MuxKind → PlainFrame → ℕ
comes_of Sabm frame = 1
comes_of Ua frame = 0
comes_of Dm frame = 0
comes_of Disc frame = 1
comes_of Uih frame = if frame.dlci == 0 then answers_to (messages frame.octets) else if is_empty frame.octets then 0 else 1

-- a frame counts with what may come of it
abbrev pub weight : PlainFrame → ℕ
weight frame = 1 + comes_of frame.kind frame

abbrev pub weights : List PlainFrame → ℕ
weights [] = 0
weights (frame ∷ frames) = weight frame + weights frames

abbrev pub weight_of : Answer → ℕ
weight_of (Ok frame) = weight frame
weight_of (Err refusal) = 1

-- ---- a multiplexer

-- the own commands that are still to be sent, each with its answer: four to open a channel, two to close
abbrev pub commands_left : Command → ℕ
commands_left OpenControl = 3
commands_left Agree = 2
commands_left OpenUser = 1
commands_left Signal = 0
commands_left LeaveUser = 1
commands_left LeaveControl = 0

abbrev pub asks_load : Asks → ℕ
asks_load Nothing = 0
asks_load (Due command) = 2 + (commands_left command + commands_left command)
asks_load (Awaited command) = commands_left command + commands_left command

-- a responder whose user channel was not asked for yet has its own MSC to send
abbrev pub signal_load : Role → Dlc → ℕ
signal_load Initiator dlc = 0
signal_load Responder Idle = 2
signal_load Responder Asked = 0
signal_load Responder Open = 0
signal_load Responder Ended = 0

abbrev pub grant_load : Credits → ℕ
grant_load account = if nat_lt 0 (grant_of account) then 1 else 0

abbrev pub waiting_load : List ℕ → ℕ
waiting_load octets = if is_empty octets then 0 else 2

abbrev pub load : Mux → ℕ
load m = asks_load m.asks + (signal_load m.role m.user + (weights m.answers + (grant_load m.account + waiting_load m.waiting)))

-- ---- the law

-- what is said, and what is left then, is no more than before
abbrev pub SaysNoMore : ℕ → Option Said → Type 0
SaysNoMore before None = Unit {0}
SaysNoMore before (Some said) = weight said.frame + load said.after ≤ before

-- For every multiplexer, every SDU and all octets.
pub record LoadFalls : Type 0 where
  pub hearing : (sdu : List ℕ) (m : Mux) → load (hears sdu m) < load m + weight_of (frame_answer sdu)
  -- where the user channel is not the control channel
  pub saying : (m : Mux) → 0 < m.dlci → SaysNoMore (load m) (next m)
  pub giving : (octets : List ℕ) (m : Mux) → load (sends octets m) ≤ load m + 2
  pub leaving : (m : Mux) → load (leaves m) ≤ load m + 4
  -- ten frames open a channel, and each side may have a grant to give
  pub initiator : (dlci largest own cap : ℕ) → load (new_mux Initiator dlci largest own cap) ≤ 9
  pub responder : (dlci largest own cap : ℕ) → load (new_mux Responder dlci largest own cap) ≤ 3
