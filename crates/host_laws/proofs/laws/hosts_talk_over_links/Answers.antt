use Rattle.host_laws.proofs.OverLinks.{hosts_talk_over_links}
use Rattle.host_laws.proofs.laws.hosts_talk_over_links.Goals as goal

pub returns : goal.returns
returns g c A = hosts_talk_over_links A
