use Rattle.channel_laws.proofs.Flowing.{enhanced-are_pipes}
use Rattle.channel_laws.proofs.laws.pipes.enhanced_channels_are_pipes.Goals as goal

pub returns : goal.returns
returns c = enhanced-are_pipes
