use Rattle.host_laws.proofs.Moving.{own_talk_moves}
use Rattle.host_laws.proofs.laws.own_talk_moves.Goals as goal

pub returns : goal.returns
returns c = own_talk_moves
