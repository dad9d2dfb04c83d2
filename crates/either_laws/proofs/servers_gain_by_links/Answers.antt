use Rattle.either_laws.proofs.ByLinks.{servers_gain_by_links}
use Rattle.either_laws.proofs.servers_gain_by_links.Goals as goal

pub returns : goal.returns
returns c = servers_gain_by_links
