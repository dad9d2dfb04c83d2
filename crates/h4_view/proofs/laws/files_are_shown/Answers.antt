use Rattle.h4_view.proofs.EachSnoop.{files_shown}
use Rattle.h4_view.proofs.laws.files_are_shown.Goals as goal

pub returns : goal.returns
returns c = files_shown
