use Rattle.std.proofs.Common.{arith}
use Rattle.check_words.proofs.RfcommValues.{rest_is}
use Rattle.check_words.proofs.rfcomm_table.rest_of.Goals as goal

pub returns : goal.returns
returns c = rest_is c.args.octet (omega arith)
