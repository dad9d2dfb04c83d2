use Rattle.channel_laws.proofs.Belonging.{channels-belong}
use Rattle.channel_laws.proofs.laws.channels_belong.Goals as goal

pub returns : goal.returns
returns c = channels-belong
