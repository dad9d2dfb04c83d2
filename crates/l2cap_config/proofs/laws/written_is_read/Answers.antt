use Rattle.l2cap_config.proofs.Written.{written_read}
use Rattle.l2cap_config.proofs.laws.written_is_read.Goals as goal

pub returns : goal.returns
returns c = written_read
