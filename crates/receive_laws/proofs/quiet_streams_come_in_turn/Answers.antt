use Rattle.receive_laws.proofs.Freely.{quiet_streams_come_in_turn}
use Rattle.receive_laws.proofs.quiet_streams_come_in_turn.Goals as goal

pub returns : goal.returns
returns c = quiet_streams_come_in_turn
