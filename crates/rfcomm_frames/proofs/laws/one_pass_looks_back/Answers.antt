use Rattle.rfcomm_frames.proofs.LookingBack.{looks-back}
use Rattle.rfcomm_frames.proofs.laws.one_pass_looks_back.Goals as goal

pub returns : goal.returns
returns c = looks-back
