use Rattle.rfcomm_model.proofs.Closing.{closed-for_good}
use Rattle.rfcomm_model.proofs.laws.closed_for_good.Goals as goal

pub returns : goal.returns
returns c = closed-for_good
