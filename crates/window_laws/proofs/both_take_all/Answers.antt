use Rattle.window_laws.proofs.Taking.{both-take_all}
use Rattle.window_laws.proofs.both_take_all.Goals as goal

pub returns : goal.returns
returns c = both-take_all
