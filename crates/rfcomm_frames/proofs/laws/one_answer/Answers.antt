use Rattle.rfcomm_frames.proofs.OneAnswer.{one-answer, one-frame}
use Rattle.rfcomm_frames.proofs.laws.one_answer.Goals as goal

pub returns : goal.returns
returns c = record { answer = one-answer; frame = one-frame }
