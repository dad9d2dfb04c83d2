use Rattle.receive_laws.proofs.Streams.{streams_are_runs}
use Rattle.receive_laws.proofs.streams_are_runs.Goals as goal

pub returns : goal.returns
returns c = streams_are_runs
