use Rattle.channel_laws.proofs.Arrived.{basic-once}
use Rattle.channel_laws.proofs.laws.pipes.basic_channels_come_once.Goals as goal

pub returns : goal.returns
returns c = basic-once
