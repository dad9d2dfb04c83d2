use Rattle.rfcomm_laws.proofs.Falling.{frames-are_few}
use Rattle.rfcomm_laws.proofs.frames_are_few.Goals as goal

pub returns : goal.returns
returns c = frames-are_few
