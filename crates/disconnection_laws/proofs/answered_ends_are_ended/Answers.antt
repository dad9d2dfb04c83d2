use Rattle.disconnection_laws.proofs.Ending.{answered-ends_are_ended}
use Rattle.disconnection_laws.proofs.answered_ends_are_ended.Goals as goal

pub returns : goal.returns
returns c = answered-ends_are_ended
