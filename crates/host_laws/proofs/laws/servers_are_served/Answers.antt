use Rattle.host_laws.proofs.Serving.{servers_are_served}
use Rattle.host_laws.proofs.laws.servers_are_served.Goals as goal

pub returns : goal.returns
returns c = servers_are_served
