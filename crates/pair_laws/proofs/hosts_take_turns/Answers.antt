use Rattle.pair_laws.proofs.Pairing.{hosts-take_turns}
use Rattle.pair_laws.proofs.hosts_take_turns.Goals as goal

pub returns : goal.returns
returns c = hosts-take_turns
