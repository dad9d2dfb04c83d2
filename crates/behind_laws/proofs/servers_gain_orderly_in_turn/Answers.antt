use Rattle.behind_laws.proofs.Answered.{servers_gain_orderly_in_turn}
use Rattle.behind_laws.proofs.servers_gain_orderly_in_turn.Goals as goal

pub returns : goal.returns
returns c = servers_gain_orderly_in_turn
