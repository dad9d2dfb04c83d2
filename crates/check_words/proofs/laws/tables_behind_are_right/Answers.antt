use Rattle.check_words.proofs.BehindValues.{behind_is}
use Rattle.check_words.proofs.laws.tables_behind_are_right.Goals as goal

pub returns : goal.returns
returns c = behind_is
