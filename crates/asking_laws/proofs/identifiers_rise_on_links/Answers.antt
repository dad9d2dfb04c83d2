use Rattle.asking_laws.proofs.Asking.{identifiers-rise_on_links}
use Rattle.asking_laws.proofs.identifiers_rise_on_links.Goals as goal

pub returns : goal.returns
returns c = identifiers-rise_on_links c.clients_ask_in_order.ensures c.servers_ask_for_nothing.ensures c.ends_are_asked_anew.ensures c.two_are_granted.ensures c.granters_never_fall.ensures
