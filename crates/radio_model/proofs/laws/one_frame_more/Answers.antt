use Rattle.radio_model.proofs.Flying.{one_frame_more}
use Rattle.radio_model.proofs.laws.one_frame_more.Goals as goal

pub returns : goal.returns
returns c = one_frame_more
