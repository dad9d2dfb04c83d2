use Rattle.asking_laws.proofs.Asking.{one-counts_on_links}
use Rattle.asking_laws.proofs.one_counts_on_links.Goals as goal

pub returns : goal.returns
returns c = one-counts_on_links c.clients_hold_one.ensures
