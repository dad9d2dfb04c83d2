use Rattle.limit_laws.proofs.GoingOn.{few-words_answer_well}
use Rattle.limit_laws.proofs.few_words_answer_well.Goals as goal

pub returns : goal.returns
returns c = few-words_answer_well c.links_are_orderly.ensures c.one_counts_on_links.ensures c.wishes_meet.ensures c.few_turns_answer_well.ensures
