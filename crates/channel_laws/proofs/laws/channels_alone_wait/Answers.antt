use Rattle.own_channel_laws.proofs.Services.{channels-alone_wait}
use Rattle.channel_laws.proofs.laws.channels_alone_wait.Goals as goal

pub returns : goal.returns
returns c = channels-alone_wait
