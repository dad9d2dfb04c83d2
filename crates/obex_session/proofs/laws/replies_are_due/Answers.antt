use Rattle.obex_session.proofs.RepliedLaws.{replies-are_due}
use Rattle.obex_session.proofs.laws.replies_are_due.Goals as goal

pub returns : goal.returns
returns c = replies-are_due
