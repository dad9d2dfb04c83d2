use Rattle.inbox_laws.proofs.Owning.{own_rest}
use Rattle.inbox_laws.proofs.own_rests_are_rests.Goals as goal

pub returns : goal.returns
returns c = own_rest
