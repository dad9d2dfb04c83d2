use Rattle.rfcomm_model.proofs.Taking.{taken-is_sent}
use Rattle.rfcomm_model.proofs.laws.taken_is_sent.Goals as goal

pub returns : goal.returns
returns c = taken-is_sent
