use Rattle.capture.proofs.FurtherLaws.{peak-more}
use Rattle.capture.proofs.laws.peak_with_more.Goals as goal

pub returns : goal.returns
returns c = peak-more
