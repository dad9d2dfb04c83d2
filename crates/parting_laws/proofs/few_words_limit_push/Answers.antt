use Rattle.parting_laws.proofs.Limits.{few-words_limit_push}
use Rattle.parting_laws.proofs.few_words_limit_push.Goals as goal

pub returns : goal.returns
returns c = few-words_limit_push c.disturbances_cost_words.ensures c.few_words_limit_none.ensures
