use Rattle.parting_laws.proofs.Runs.{few-words_part_none}
use Rattle.parting_laws.proofs.few_words_part_none.Goals as goal

pub returns : goal.returns
returns c = few-words_part_none c.disturbances_cost_words.ensures c.few_words_tell_mildly.ensures
