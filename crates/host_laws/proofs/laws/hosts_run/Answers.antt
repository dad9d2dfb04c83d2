use Rattle.host_laws.proofs.Living.{hosts_run}
use Rattle.host_laws.proofs.laws.hosts_run.Goals as goal

pub returns : goal.returns
returns g c A = hosts_run A
