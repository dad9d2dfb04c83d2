use Rattle.obex_session.proofs.PassingLaws.{replies-keep_modes}
use Rattle.obex_session.proofs.laws.replies_keep_modes.Goals as goal

pub returns : goal.returns
returns c = replies-keep_modes
