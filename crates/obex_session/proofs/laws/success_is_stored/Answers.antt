use Rattle.obex_session.proofs.SuccessLaws.{success_is_stored}
use Rattle.obex_session.proofs.laws.success_is_stored.Goals as goal

pub returns : goal.returns
returns c = success_is_stored
