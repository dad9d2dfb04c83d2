use Rattle.rfcomm_model.proofs.Closed.{endings-look_back}
use Rattle.rfcomm_model.proofs.laws.endings_look_back.Goals as goal

pub returns : goal.returns
returns c = endings-look_back
