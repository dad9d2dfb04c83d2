use Rattle.obex_session.proofs.ExchangeLaws.{responses_are_read}
use Rattle.obex_session.proofs.laws.responses_are_read.Goals as goal

pub returns : goal.returns
returns c = responses_are_read
