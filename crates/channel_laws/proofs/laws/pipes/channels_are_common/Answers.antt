use Rattle.channel_laws.proofs.Sharing.{channels-are_common}
use Rattle.channel_laws.proofs.laws.pipes.channels_are_common.Goals as goal

pub returns : goal.returns
returns c = channels-are_common
