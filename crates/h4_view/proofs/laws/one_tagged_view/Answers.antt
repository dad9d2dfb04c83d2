use Rattle.h4_view.proofs.OneTagged.{one_tagged_view}
use Rattle.h4_view.proofs.laws.one_tagged_view.Goals as goal

pub returns : goal.returns
returns c = one_tagged_view
