use Rattle.h4_view.proofs.Knowing.{knows_none}
use Rattle.h4_view.proofs.links.Links.new.Goals as goal

pub returns : goal.returns
returns c = knows_none _ c.in_ok-with_capacity.ensures.items c.new.ensures.items
