use Rattle.limit_laws.proofs.GoingOn.{few-words_go_on}
use Rattle.limit_laws.proofs.few_words_go_on.Goals as goal

pub returns : goal.returns
returns c = few-words_go_on c.links_are_orderly.ensures c.few_words_answer_well.ensures c.few_turns_end_none_of_both.ensures
