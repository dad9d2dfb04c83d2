use Rattle.channel_laws.proofs.Arrived.{basic-arrive}
use Rattle.channel_laws.proofs.laws.pipes.basic_channels_arrive.Goals as goal

pub returns : goal.returns
returns c = basic-arrive
