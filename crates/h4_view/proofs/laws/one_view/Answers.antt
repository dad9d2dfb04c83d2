use Rattle.h4_view.proofs.OneView.{one_view}
use Rattle.h4_view.proofs.laws.one_view.Goals as goal

pub returns : goal.returns
returns c = one_view
