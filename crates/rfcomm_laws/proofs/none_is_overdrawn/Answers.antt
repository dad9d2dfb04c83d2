use Rattle.rfcomm_laws.proofs.Summing.{none-is_overdrawn}
use Rattle.rfcomm_laws.proofs.none_is_overdrawn.Goals as goal

pub returns : goal.returns
returns c = none-is_overdrawn
