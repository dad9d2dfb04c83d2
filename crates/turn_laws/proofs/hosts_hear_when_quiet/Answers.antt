use Rattle.turn_laws.proofs.Running.{hears_when_quiet}
use Rattle.turn_laws.proofs.hosts_hear_when_quiet.Goals as goal

pub returns : goal.returns
returns g c U V = hears_when_quiet U V
