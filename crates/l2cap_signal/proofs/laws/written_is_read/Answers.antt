use Rattle.l2cap_signal.proofs.Payloads.{written_read}
use Rattle.l2cap_signal.proofs.laws.written_is_read.Goals as goal

pub returns : goal.returns
returns c = written_read
