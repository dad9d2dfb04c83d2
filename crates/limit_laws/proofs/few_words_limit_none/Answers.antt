use Rattle.limit_laws.proofs.Telling.{few-words_limit_none}
use Rattle.limit_laws.proofs.few_words_limit_none.Goals as goal

pub returns : goal.returns
returns c = few-words_limit_none c.links_are_orderly.ensures c.few_words_answer_well.ensures c.connections_are_met.ensures c.names_are_apart.ensures c.clients_ask_in_order.ensures c.few_turns_limit_none.ensures
