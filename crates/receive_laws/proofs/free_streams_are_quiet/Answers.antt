use Rattle.receive_laws.proofs.Freely.{free_streams_are_quiet}
use Rattle.receive_laws.proofs.free_streams_are_quiet.Goals as goal

pub returns : goal.returns
returns c = free_streams_are_quiet
