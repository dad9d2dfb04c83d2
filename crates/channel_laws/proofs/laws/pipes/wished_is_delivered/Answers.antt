use Rattle.channel_laws.proofs.Delivered.{wished-is_delivered}
use Rattle.channel_laws.proofs.laws.pipes.wished_is_delivered.Goals as goal

pub returns : goal.returns
returns c = wished-is_delivered
