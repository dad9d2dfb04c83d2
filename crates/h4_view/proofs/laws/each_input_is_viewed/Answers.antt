use Rattle.h4_view.proofs.OneView.{each_viewed}
use Rattle.h4_view.proofs.laws.each_input_is_viewed.Goals as goal

pub returns : goal.returns
returns c = each_viewed
