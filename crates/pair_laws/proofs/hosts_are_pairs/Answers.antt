use Rattle.pair_laws.proofs.Pairing.{hosts-are_pairs}
use Rattle.pair_laws.proofs.hosts_are_pairs.Goals as goal

pub returns : goal.returns
returns c = hosts-are_pairs
