use Rattle.obex_session.proofs.PairFronts.{responses_are_awaited}
use Rattle.obex_session.proofs.laws.responses_are_awaited.Goals as goal

pub returns : goal.returns
returns c = responses_are_awaited
