use Rattle.orderly_laws.proofs.Served.{servers_gain_served}
use Rattle.orderly_laws.proofs.servers_gain_served.Goals as goal

pub returns : goal.returns
returns c = servers_gain_served
