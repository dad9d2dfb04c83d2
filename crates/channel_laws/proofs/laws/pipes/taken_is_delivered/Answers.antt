use Rattle.channel_laws.proofs.Delivered.{taken-is_delivered}
use Rattle.channel_laws.proofs.laws.pipes.taken_is_delivered.Goals as goal

pub returns : goal.returns
returns c = taken-is_delivered
