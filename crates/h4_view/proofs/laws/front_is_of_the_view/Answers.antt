use Rattle.h4_view.proofs.OneView.{front_of_view}
use Rattle.h4_view.proofs.laws.front_is_of_the_view.Goals as goal

pub returns : goal.returns
returns c = front_of_view
