use Rattle.pair_laws.proofs.Paying.{requests-cost_words}
use Rattle.pair_laws.proofs.laws.requests_cost_words.Goals as goal

pub returns : goal.returns
returns c = requests-cost_words c.tries_are_kept.ensures c.disturbances_are_counted.ensures c.features_are_heeded.ensures c.met_is_heeded.ensures c.connections_are_met.ensures c.names_are_apart.ensures c.clients_ask_in_order.ensures c.servers_ask_for_nothing.ensures
