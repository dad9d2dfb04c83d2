use Rattle.channel_laws.proofs.Shutting.{closings-are_read}
use Rattle.channel_laws.proofs.laws.pipes.closings_are_read.Goals as goal

pub returns : goal.returns
returns c = closings-are_read
