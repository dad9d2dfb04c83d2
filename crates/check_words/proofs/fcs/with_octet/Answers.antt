use Rattle.std.proofs.Common.{arith}
use Rattle.check_words.proofs.CheckWord.{octet_more}
use Rattle.check_words.proofs.fcs.with_octet.Goals as goal

pub returns : goal.returns
returns c = octet_more c.args.word c.args.octet c.check_word_of.result (omega arith) c.check_word_of.ensures
