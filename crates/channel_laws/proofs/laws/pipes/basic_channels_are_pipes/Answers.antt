use Rattle.channel_laws.proofs.Ordered.{basic-are_pipes}
use Rattle.channel_laws.proofs.laws.pipes.basic_channels_are_pipes.Goals as goal

pub returns : goal.returns
returns c = basic-are_pipes
