use Rattle.capture.proofs.FurtherLaws.{words-more}
use Rattle.capture.proofs.laws.words_with_more.Goals as goal

pub returns : goal.returns
returns c = words-more
