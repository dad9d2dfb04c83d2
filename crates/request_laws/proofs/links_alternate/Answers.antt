use Rattle.request_laws.proofs.Timely.{links_alternate}
use Rattle.request_laws.proofs.links_alternate.Goals as goal

pub returns : goal.returns
returns c = links_alternate
