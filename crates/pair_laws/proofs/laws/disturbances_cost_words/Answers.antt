use Rattle.pair_laws.proofs.Pairing.{disturbances-cost_words}
use Rattle.pair_laws.proofs.laws.disturbances_cost_words.Goals as goal

pub returns : goal.returns
returns c = disturbances-cost_words
