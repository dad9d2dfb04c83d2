use Rattle.ertm_frames.proofs.WorkedOut.{answer-is_worked_out}
use Rattle.ertm_frames.proofs.laws.answers_are_worked_out.Goals as goal

pub returns : goal.returns
returns c = answer-is_worked_out
