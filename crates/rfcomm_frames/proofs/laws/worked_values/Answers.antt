use Rattle.std.proofs.Common.{refl}
use Rattle.rfcomm_frames.proofs.laws.worked_values.Goals as goal

pub returns : goal.returns
returns c = (refl, refl, refl, refl)
