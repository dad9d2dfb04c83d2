use Rattle.own_channel_laws.proofs.Spending.{firings-alone_repeat}
use Rattle.channel_laws.proofs.laws.firings_alone_repeat.Goals as goal

pub returns : goal.returns
returns c = firings-alone_repeat
