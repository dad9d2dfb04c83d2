use Rattle.pair_laws.proofs.Pairing.{served-take_turns}
use Rattle.pair_laws.proofs.served_take_turns.Goals as goal

pub returns : goal.returns
returns c = served-take_turns
