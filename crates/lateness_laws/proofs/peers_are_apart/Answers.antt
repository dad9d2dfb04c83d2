use Rattle.lateness_laws.proofs.Remaining.{peers-are_apart}
use Rattle.lateness_laws.proofs.peers_are_apart.Goals as goal

pub returns : goal.returns
returns c = peers-are_apart
