use Rattle.host_laws.proofs.Turning.{all_links_are_acts}
use Rattle.host_laws.proofs.laws.all_links_are_acts.Goals as goal

pub returns : goal.returns
returns g c U V = all_links_are_acts U V
