use Rattle.h4_view.proofs.BothWays.{both_none}
use Rattle.h4_view.proofs.both_links.BothLinks.new.Goals as goal

pub returns : goal.returns
returns c = both_none _ c.in_ok-with_capacity.ensures.items c.new.ensures.items
