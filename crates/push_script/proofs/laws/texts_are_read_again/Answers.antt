use Rattle.push_script.proofs.Again.{text_again}
use Rattle.push_script.proofs.laws.texts_are_read_again.Goals as goal

pub returns : goal.returns
returns c = text_again
