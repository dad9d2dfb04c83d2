use Rattle.rfcomm_frames.proofs.OneControl.{one-control-answer, one-control}
use Rattle.rfcomm_frames.proofs.laws.one_control_answer.Goals as goal

pub returns : goal.returns
returns c = record { answer = one-control-answer; control = one-control }
