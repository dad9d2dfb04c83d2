use Rattle.host_laws.proofs.Turning.{links_are_acts}
use Rattle.host_laws.proofs.laws.links_are_acts.Goals as goal

pub returns : goal.returns
returns g c U V = links_are_acts U V
