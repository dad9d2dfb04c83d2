use Rattle.own_channel_laws.proofs.Running.{channels-are_read}
use Rattle.channel_laws.proofs.laws.channels_are_read.Goals as goal

pub returns : goal.returns
returns c = channels-are_read
