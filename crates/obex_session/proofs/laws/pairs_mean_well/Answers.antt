use Rattle.obex_session.proofs.PairFronts.{pairs_mean_well}
use Rattle.obex_session.proofs.laws.pairs_mean_well.Goals as goal

pub returns : goal.returns
returns c = pairs_mean_well
