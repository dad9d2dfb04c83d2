use Rattle.host_laws.proofs.Stepping.{hosts_ask_as_they_step}
use Rattle.host_laws.proofs.laws.hosts_ask_as_they_step.Goals as goal

pub returns : goal.returns
returns c = hosts_ask_as_they_step
