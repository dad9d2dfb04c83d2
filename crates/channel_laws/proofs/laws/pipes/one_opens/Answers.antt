use Rattle.channel_laws.proofs.Pending.{one-opens}
use Rattle.channel_laws.proofs.laws.pipes.one_opens.Goals as goal

pub returns : goal.returns
returns c = one-opens
