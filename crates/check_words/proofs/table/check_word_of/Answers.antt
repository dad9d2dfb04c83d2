use Rattle.std.proofs.Common.{arith}
use Rattle.check_words.proofs.TableValues.{table_is}
use Rattle.check_words.proofs.table.check_word_of.Goals as goal

pub returns : goal.returns
returns c = table_is c.args.octet (omega arith)
