use Rattle.rfcomm_frames.proofs.OneAnswer.{no-longer}
use Rattle.rfcomm_frames.proofs.OneControl.{control-no-longer}
use Rattle.rfcomm_frames.proofs.laws.written_is_no_longer.Goals as goal

pub returns : goal.returns
returns c = record { frame = no-longer; control = control-no-longer }
