use Rattle.ertm_model.proofs.Unarmed.{rest-is_done}
use Rattle.ertm_model.proofs.laws.rest_is_done.Goals as goal

pub returns : goal.returns
returns c = rest-is_done
