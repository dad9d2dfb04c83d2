use Rattle.receive_laws.proofs.Freely.{free_streams_come_in_turn}
use Rattle.receive_laws.proofs.free_streams_come_in_turn.Goals as goal

pub returns : goal.returns
returns c = free_streams_come_in_turn
