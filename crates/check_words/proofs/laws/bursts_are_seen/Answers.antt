use Rattle.check_words.proofs.Bursts.{bursts-seen}
use Rattle.check_words.proofs.laws.bursts_are_seen.Goals as goal

pub returns : goal.returns
returns c = bursts-seen
