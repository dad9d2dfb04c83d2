use Rattle.limit_laws.proofs.GoingOn.{links-are_orderly}
use Rattle.limit_laws.proofs.links_are_orderly.Goals as goal

pub returns : goal.returns
returns c = links-are_orderly c.upsets_cost_words.ensures c.pairs_are_carried.ensures c.servers_ask_for_nothing.ensures c.none_is_called.ensures c.grants_are_single.ensures c.ends_are_asked_singly.ensures c.identifiers_rise_on_links.ensures
