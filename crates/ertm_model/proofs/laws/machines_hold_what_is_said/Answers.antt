use Rattle.ertm_model.proofs.Coursing.{always-said}
use Rattle.ertm_model.proofs.laws.machines_hold_what_is_said.Goals as goal

pub returns : goal.returns
returns c = always-said
