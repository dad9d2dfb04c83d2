use Rattle.check_words.proofs.Octets.{changed-seen}
use Rattle.check_words.proofs.laws.changed_octets_are_seen.Goals as goal

pub returns : goal.returns
returns c = changed-seen
