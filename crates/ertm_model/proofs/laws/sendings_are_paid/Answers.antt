use Rattle.ertm_model.proofs.Resting.{always-affords}
use Rattle.ertm_model.proofs.laws.sendings_are_paid.Goals as goal

pub returns : goal.returns
returns c = always-affords
