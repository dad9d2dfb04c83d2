use Rattle.h4_view.proofs.EachSnoop.{each_snoop_viewed}
use Rattle.h4_view.proofs.laws.each_snoop_is_viewed.Goals as goal

pub returns : goal.returns
returns c = each_snoop_viewed
