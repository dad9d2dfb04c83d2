use Rattle.obex_session.proofs.ReadableLaws.{replies_are_read}
use Rattle.obex_session.proofs.laws.replies_are_read.Goals as goal

pub returns : goal.returns
returns c = replies_are_read
