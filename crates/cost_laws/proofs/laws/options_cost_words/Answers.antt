use Rattle.cost_laws.proofs.Options.{options-cost_words}
use Rattle.cost_laws.proofs.laws.options_cost_words.Goals as goal

pub returns : goal.returns
returns c = options-cost_words c.tries_are_kept.ensures c.options_of_left_are_counted.ensures c.few_words_go_on.ensures c.requests_cost_words.ensures
