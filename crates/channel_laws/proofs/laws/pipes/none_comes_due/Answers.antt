use Rattle.channel_laws.proofs.Pending.{none-comes_due}
use Rattle.channel_laws.proofs.laws.pipes.none_comes_due.Goals as goal

pub returns : goal.returns
returns c = none-comes_due
