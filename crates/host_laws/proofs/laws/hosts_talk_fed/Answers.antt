use Rattle.host_laws.proofs.OverLinks.{hosts_talk_fed}
use Rattle.host_laws.proofs.laws.hosts_talk_fed.Goals as goal

pub returns : goal.returns
returns g c A = hosts_talk_fed A
