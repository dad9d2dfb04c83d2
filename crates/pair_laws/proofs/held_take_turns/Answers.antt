use Rattle.pair_laws.proofs.Pairing.{held-take_turns}
use Rattle.pair_laws.proofs.held_take_turns.Goals as goal

pub returns : goal.returns
returns c = held-take_turns
