use Rattle.orderly_laws.proofs.Gaining.{servers_gain_asked}
use Rattle.orderly_laws.proofs.servers_gain_asked.Goals as goal

pub returns : goal.returns
returns c = servers_gain_asked
