use Rattle.recovery_laws.proofs.Running.{runs-are_bounded, harm-is_small, idle-is_done}
use Rattle.recovery_laws.proofs.runs_recover.Goals as goal

pub returns : goal.returns
returns c = record { bounded = runs-are_bounded; small = harm-is_small; done = idle-is_done }
