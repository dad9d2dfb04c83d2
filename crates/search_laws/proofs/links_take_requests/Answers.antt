use Rattle.search_laws.proofs.Links.{links-take_requests}
use Rattle.search_laws.proofs.links_take_requests.Goals as goal

pub returns : goal.returns
returns c = links-take_requests
