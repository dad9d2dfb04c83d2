use Rattle.h4_view.proofs.EachTagged.{each_tagged_viewed}
use Rattle.h4_view.proofs.laws.each_tagged_is_viewed.Goals as goal

pub returns : goal.returns
returns c = each_tagged_viewed
