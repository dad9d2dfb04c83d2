use Rattle.std.proofs.Common.{arith}
use Rattle.check_words.proofs.BehindValues.{behind_is}
use Rattle.check_words.proofs.behind.check_word_behind.Goals as goal

pub returns : goal.returns
returns c = behind_is c.args.more c.args.octet (omega arith) (omega arith)
