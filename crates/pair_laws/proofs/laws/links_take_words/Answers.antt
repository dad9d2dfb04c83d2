use Rattle.pair_laws.proofs.Pairing.{links-take_words}
use Rattle.pair_laws.proofs.laws.links_take_words.Goals as goal

pub returns : goal.returns
returns c = links-take_words
