use Rattle.request_laws.proofs.MuxCarrying.{links_are_carried}
use Rattle.request_laws.proofs.links_are_carried.Goals as goal

pub returns : goal.returns
returns c = links_are_carried
