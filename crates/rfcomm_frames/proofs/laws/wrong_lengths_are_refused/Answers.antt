use Rattle.rfcomm_frames.proofs.OneAnswer.{wrong_lengths-refused}
use Rattle.rfcomm_frames.proofs.OneControl.{wrong_values-refused}
use Rattle.rfcomm_frames.proofs.laws.wrong_lengths_are_refused.Goals as goal

pub returns : goal.returns
returns c = record { frame = wrong_lengths-refused; control = wrong_values-refused }
