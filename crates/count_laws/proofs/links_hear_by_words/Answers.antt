use Rattle.count_laws.proofs.Coming.{links-hear_by_words}
use Rattle.count_laws.proofs.links_hear_by_words.Goals as goal

pub returns : goal.returns
returns c = links-hear_by_words
