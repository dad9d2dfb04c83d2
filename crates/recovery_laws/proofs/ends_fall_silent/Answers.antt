use Rattle.recovery_laws.proofs.Silencing.{ends-fall_silent}
use Rattle.recovery_laws.proofs.ends_fall_silent.Goals as goal

pub returns : goal.returns
returns c = ends-fall_silent
