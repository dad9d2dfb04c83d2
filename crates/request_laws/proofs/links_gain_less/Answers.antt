use Rattle.request_laws.proofs.Losing.{links_gain_less}
use Rattle.request_laws.proofs.links_gain_less.Goals as goal

pub returns : goal.returns
returns c = links_gain_less
