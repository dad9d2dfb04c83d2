use Rattle.cost_laws.proofs.Ends.{ends-cost_words}
use Rattle.cost_laws.proofs.laws.ends_cost_words.Goals as goal

pub returns : goal.returns
returns c = ends-cost_words c.grants_are_single.ensures c.tries_are_kept.ensures c.requests_cost_words.ensures c.few_words_go_on.ensures
