use Rattle.obex_session.proofs.PushLaws.{fronts_are_pushed}
use Rattle.obex_session.proofs.laws.fronts_are_pushed.Goals as goal

pub returns : goal.returns
returns c = fronts_are_pushed
