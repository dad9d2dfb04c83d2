use Rattle.obex_session.proofs.PairFronts.{pairs_hear_fronts}
use Rattle.obex_session.proofs.laws.pairs_hear_fronts.Goals as goal

pub returns : goal.returns
returns c = pairs_hear_fronts
