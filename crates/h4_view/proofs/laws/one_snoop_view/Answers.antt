use Rattle.h4_view.proofs.OneSnoop.{one_snoop_view}
use Rattle.h4_view.proofs.laws.one_snoop_view.Goals as goal

pub returns : goal.returns
returns c = one_snoop_view
