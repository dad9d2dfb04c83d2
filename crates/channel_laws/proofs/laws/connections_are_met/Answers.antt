use Rattle.channel_laws.proofs.ConnectionsMet.{connections-are_met}
use Rattle.channel_laws.proofs.laws.connections_are_met.Goals as goal

pub returns : goal.returns
returns c = connections-are_met
