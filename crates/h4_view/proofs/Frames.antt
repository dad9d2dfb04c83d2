-- The one answer of frames.
use Rattle.std.proofs.Common.{◌≡◌, ℕ, List}
use Rattle.bt_base.specs.Octets.{IsOctets}
use Rattle.rfcomm_frames.specs.Answers.{Answer as MuxAnswer, IsAnswer as IsMuxAnswer}
use Rattle.rfcomm_frames.specs.FrameReading.{frame_answer}
use Rattle.rfcomm_frames.proofs.FrameReading.{frame_answered}
use Rattle.rfcomm_frames.proofs.OneAnswer as mux
use Rattle.ertm_frames.specs.Answers.{Answer as FrameAnswer, IsAnswer as IsFrameAnswer}
use Rattle.ertm_frames.specs.Reading.{answer_in}
use Rattle.ertm_frames.proofs.WorkedOut.{answer-is_worked_out}
use Rattle.ertm_frames.proofs.Spelled as enhanced

pub mux_answer : (octets : List ℕ) (answer : MuxAnswer) → IsOctets octets → IsMuxAnswer octets answer → answer ≡ frame_answer octets
mux_answer octets answer are is = mux.one-answer octets answer (frame_answer octets) is (frame_answered octets are)

pub enhanced_answer : (mps : ℕ) (pdu : List ℕ) (answer : FrameAnswer) → IsOctets pdu → IsFrameAnswer mps pdu answer → answer ≡ answer_in mps pdu
enhanced_answer mps pdu answer are is = enhanced.one-answer mps pdu answer (answer_in mps pdu) is (answer-is_worked_out mps pdu are)
