use Rattle.request_laws.proofs.Heard.{links_gain_all}
use Rattle.request_laws.proofs.links_gain_all.Goals as goal

pub returns : goal.returns
returns c = links_gain_all
