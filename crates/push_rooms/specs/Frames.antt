-- A frame of the multiplexer that waits, by its octets.
use Rattle.std.specs.Prelude.{ℕ, ◌≡◌, ◌⊎◌, List, Option, Some, None, Ok, Err, length}
use Rattle.rfcomm_frames.specs.Answers.{Answer}
use Rattle.rfcomm_frames.specs.Frames.{PlainFrame}
use Rattle.rfcomm_frames.specs.FrameReading.{frame_answer}
use Rattle.rfcomm_model.specs.Saying.{Said}
use Rattle.push_model.specs.Payloads.{IsShortest}

abbrev pub frame_of : Answer → Option PlainFrame
frame_of (Ok frame) = Some frame
frame_of (Err refusal) = None

-- the frame that octets spell
abbrev pub frame_in : List ℕ → Option PlainFrame
frame_in octets = frame_of (frame_answer octets)

-- none waits, or one in its shortest form, of so many octets
abbrev pub IsWaiting : ℕ → List ℕ → Type 0
IsWaiting size octets = (size ≡ 0) ⊎ ((frame : PlainFrame) × (frame_in octets ≡ Some frame) × IsShortest frame octets × (length octets ≡ size))

-- the frame that a multiplexer says next
abbrev pub said_frame : Option Said → Option PlainFrame
said_frame None = None
said_frame (Some said) = Some said.frame
