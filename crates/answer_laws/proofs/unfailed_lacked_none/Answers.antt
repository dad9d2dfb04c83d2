use Rattle.answer_laws.proofs.Memory.{unfailed_lacked_none}
use Rattle.answer_laws.proofs.unfailed_lacked_none.Goals as goal

pub returns : goal.returns
returns c = unfailed_lacked_none
