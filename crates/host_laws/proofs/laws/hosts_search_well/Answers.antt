use Rattle.host_laws.proofs.SearchHosts.{hosts_search_well}
use Rattle.host_laws.proofs.laws.hosts_search_well.Goals as goal

pub returns : goal.returns
returns c = hosts_search_well
