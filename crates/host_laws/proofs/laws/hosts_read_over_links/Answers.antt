use Rattle.host_laws.proofs.GainingOver.{hosts_read_over_links}
use Rattle.host_laws.proofs.laws.hosts_read_over_links.Goals as goal

pub returns : goal.returns
returns c = hosts_read_over_links
