use Rattle.obex_session.proofs.ObjectLaws.{puts_in_order}
use Rattle.obex_session.proofs.laws.puts_are_in_order.Goals as goal

pub returns : goal.returns
returns c = puts_in_order
