use Rattle.push_laws.proofs.Blamed.{peers_blamed_exactly}
use Rattle.push_laws.proofs.peer_laws.peers_are_blamed_exactly.Goals as goal

pub returns : goal.returns
returns c = peers_blamed_exactly
