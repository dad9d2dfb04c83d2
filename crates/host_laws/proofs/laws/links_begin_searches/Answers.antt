use Rattle.host_laws.proofs.SearchHosts.{links_begin_searches}
use Rattle.host_laws.proofs.laws.links_begin_searches.Goals as goal

pub returns : goal.returns
returns c = links_begin_searches
