use Rattle.orderly_laws.proofs.Carried.{servers_gain_carried}
use Rattle.orderly_laws.proofs.servers_gain_carried.Goals as goal

pub returns : goal.returns
returns c = servers_gain_carried
