-- How a frame is read.
use Rattle.std.proofs.Common.{◌≡◌, ℕ, List, ap}
use Rattle.bt_base.specs.Octets.{IsOctets}
use Rattle.rfcomm_frames.specs.declared.connection.Role.{Role}
use Rattle.rfcomm_frames.specs.Answers.{Answer, IsAnswer}
use Rattle.rfcomm_frames.specs.FrameReading.{frame_answer}
use Rattle.rfcomm_frames.specs.Multiplexing.{framed}
use Rattle.rfcomm_frames.proofs.OneAnswer.{one-answer}
use Rattle.rfcomm_frames.proofs.FrameReading.{frame_answered}
use Rattle.link_talk.specs.Frames.{frame_in}

-- a frame that was read is the one that is defined
pub frame_is : (from : Role) (sdu : List ℕ) (given : Answer) → IsOctets sdu → IsAnswer sdu given → framed from given ≡ frame_in from sdu
frame_is from sdu given octets is = ap (framed from) (one-answer sdu given (frame_answer sdu) is (frame_answered sdu octets))
