use Rattle.pair_laws.proofs.Windows.{talks_hold}
use Rattle.pair_laws.proofs.talks_hold.Goals as goal

pub returns : goal.returns
returns c = talks_hold
