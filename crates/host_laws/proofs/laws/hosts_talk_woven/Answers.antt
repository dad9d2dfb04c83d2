use Rattle.host_laws.proofs.OverLinks.{hosts_talk_woven}
use Rattle.host_laws.proofs.laws.hosts_talk_woven.Goals as goal

pub returns : goal.returns
returns g c A = hosts_talk_woven A
