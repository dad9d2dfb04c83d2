use Rattle.rfcomm_laws.proofs.Resting.{still-is_done}
use Rattle.rfcomm_laws.proofs.still_is_done.Goals as goal

pub returns : goal.returns
returns c = still-is_done
