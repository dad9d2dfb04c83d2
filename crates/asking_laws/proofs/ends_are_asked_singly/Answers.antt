use Rattle.asking_laws.proofs.Asking.{ends-are_asked_singly}
use Rattle.asking_laws.proofs.ends_are_asked_singly.Goals as goal

pub returns : goal.returns
returns c = ends-are_asked_singly c.clients_ask_in_order.ensures c.servers_ask_for_nothing.ensures c.ends_are_asked_anew.ensures c.requests_have_names.ensures c.one_counts_on_links.ensures
