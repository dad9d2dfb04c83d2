use Rattle.receiving.proofs.HeardStreams.{streams_are_heard}
use Rattle.receiving.proofs.laws.streams_are_heard.Goals as goal

pub returns : goal.returns
returns g c = streams_are_heard
