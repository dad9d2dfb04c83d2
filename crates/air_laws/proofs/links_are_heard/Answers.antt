use Rattle.air_laws.proofs.Linking.{links_are_heard}
use Rattle.air_laws.proofs.links_are_heard.Goals as goal

pub returns : goal.returns
returns g c U V = links_are_heard U V
