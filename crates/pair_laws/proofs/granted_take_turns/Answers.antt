use Rattle.pair_laws.proofs.Pairing.{granted-take_turns}
use Rattle.pair_laws.proofs.granted_take_turns.Goals as goal

pub returns : goal.returns
returns c = granted-take_turns
