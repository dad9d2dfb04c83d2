use Rattle.channel_laws.proofs.PlainTaken.{plain-is_delivered}
use Rattle.channel_laws.proofs.laws.pipes.plain_taken_is_delivered.Goals as goal

pub returns : goal.returns
returns c = plain-is_delivered
