use Rattle.check_words.proofs.TableValues.{table_is}
use Rattle.check_words.proofs.laws.table_is_right.Goals as goal

pub returns : goal.returns
returns c = table_is
