use Rattle.behind_laws.proofs.Gaining.{servers_gain_in_turn}
use Rattle.behind_laws.proofs.servers_gain_in_turn.Goals as goal

pub returns : goal.returns
returns c = servers_gain_in_turn
