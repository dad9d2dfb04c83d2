use Rattle.h4_view.proofs.EachTagged.{captures_shown}
use Rattle.h4_view.proofs.laws.captures_are_shown.Goals as goal

pub returns : goal.returns
returns c = captures_shown
