use Rattle.search_laws.proofs.Worlds.{searches-cost_words}
use Rattle.search_laws.proofs.searches_cost_words.Goals as goal

pub returns : goal.returns
returns c = searches-cost_words
