use Rattle.window_laws.proofs.Pairs.{both-hold_absolutely}
use Rattle.window_laws.proofs.both_hold_absolutely.Goals as goal

pub returns : goal.returns
returns c = both-hold_absolutely
