use Rattle.ertm_frames.proofs.Spelled.{one-answer, one-frame}
use Rattle.ertm_frames.proofs.laws.one_answer.Goals as goal

pub returns : goal.returns
returns c = record { answer = one-answer; frame = one-frame }
