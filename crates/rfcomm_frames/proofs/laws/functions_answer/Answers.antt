use Rattle.rfcomm_frames.proofs.FrameReading.{frame_answered, message_answered, spelled_answered}
use Rattle.rfcomm_frames.proofs.laws.functions_answer.Goals as goal

pub returns : goal.returns
returns c = record { frame = frame_answered; control = message_answered; spelled = spelled_answered }
