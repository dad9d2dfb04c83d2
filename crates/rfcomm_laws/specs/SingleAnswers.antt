-- Answers that a frame is given: one to SABM, to DISC and to each command on the control channel (TS 07.10, 5.4), where the answer has no more than 40 octets
-- (this project's own).
use Rattle.std.specs.Prelude.{ℕ, ◌+◌, ◌/◌, ◌%◌, ◌==◌, ◌≤◌, ◌&&◌, nat_le, Bool, false, List, [], ◌∷◌, length, Ok, Err, if◌then◌else◌}
use Rattle.rfcomm_frames.specs.declared.frame.MuxKind.{MuxKind}
use Rattle.rfcomm_frames.specs.declared.frame.MuxKind.TheVariants.{Sabm, Ua, Dm, Disc, Uih}
use Rattle.rfcomm_frames.specs.Controls.{PlainControl, pn, msc, test, rpn, rls, nsc, other, written}
use Rattle.rfcomm_frames.specs.Frames.{PlainFrame, bit}
use Rattle.rfcomm_frames.specs.FrameReading.{MessageAnswer, messages}
use Rattle.rfcomm_model.specs.Machine.{Mux}
use Rattle.rfcomm_model.specs.Hearing.{settings_of, hears_message, hears_answer}

-- one where it is asked for, and its answer is short
abbrev pub told_to : Bool → PlainControl → ℕ
told_to asked answer = if asked && nat_le (length (written answer)) 40 then 1 else 0

abbrev pub due_to : MessageAnswer → ℕ
due_to (Ok (pn command dlci flow priority timer frame retransmissions credits)) = bit command
due_to (Ok (msc command dlci signals)) = bit command
due_to (Ok (test command octets)) = told_to command (test false octets)
due_to (Ok (rpn command value)) = told_to command (rpn false (settings_of value))
due_to (Ok (rls command value)) = told_to command (rls false value)
due_to (Ok (nsc kind)) = 0
due_to (Ok (other kind value)) = told_to (kind / 2 % 2 == 1) (nsc kind)
due_to (Err refusal) = 0

abbrev pub all_due : List MessageAnswer → ℕ
all_due [] = 0
all_due (message ∷ rest) = due_to message + all_due rest

-- information has none
abbrev pub due_in : MuxKind → PlainFrame → ℕ
due_in Sabm f = 1
due_in Ua f = 0
due_in Dm f = 0
due_in Disc f = 1
due_in Uih f = if f.dlci == 0 then all_due (messages f.octets) else 0

-- For each message and each side, whatever this has come to: it has no more answers that wait than before, and that one; and so it is of a frame.
abbrev pub CommandsAreAnsweredOnce : Type 0
CommandsAreAnsweredOnce = (message : MessageAnswer) (m : Mux) → length (hears_message message m).answers ≤ length m.answers + due_to message

abbrev pub FramesAreAnsweredOnce : Type 0
FramesAreAnsweredOnce = (f : PlainFrame) (m : Mux) → length (hears_answer (Ok f) m).answers ≤ length m.answers + due_in f.kind f
