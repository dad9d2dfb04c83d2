use Rattle.pair_laws.proofs.Pairing.{hosts-hear_first}
use Rattle.pair_laws.proofs.hosts_hear_first.Goals as goal

pub returns : goal.returns
returns c = hosts-hear_first
