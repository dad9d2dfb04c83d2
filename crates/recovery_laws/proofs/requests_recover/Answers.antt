use Rattle.recovery_laws.proofs.Asking.{requests-recover}
use Rattle.recovery_laws.proofs.requests_recover.Goals as goal

pub returns : goal.returns
returns c = requests-recover
