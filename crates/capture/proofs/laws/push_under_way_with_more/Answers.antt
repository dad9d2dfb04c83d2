use Rattle.capture.proofs.FurtherLaws.{under_way-more}
use Rattle.capture.proofs.laws.push_under_way_with_more.Goals as goal

pub returns : goal.returns
returns c = under_way-more
