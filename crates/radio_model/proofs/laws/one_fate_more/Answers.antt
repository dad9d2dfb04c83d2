use Rattle.radio_model.proofs.Flying.{one_fate_more}
use Rattle.radio_model.proofs.laws.one_fate_more.Goals as goal

pub returns : goal.returns
returns c = one_fate_more
