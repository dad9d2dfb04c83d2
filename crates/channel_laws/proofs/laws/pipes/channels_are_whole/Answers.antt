use Rattle.channel_laws.proofs.Wholeness.{channels-are_whole}
use Rattle.channel_laws.proofs.laws.pipes.channels_are_whole.Goals as goal

pub returns : goal.returns
returns c = channels-are_whole
