use Rattle.capture.proofs.FurtherLaws.{within-more}
use Rattle.capture.proofs.laws.buffers_stay_within.Goals as goal

pub returns : goal.returns
returns c = within-more
