use Rattle.pair_laws.proofs.Modes.{runs-are_enhanced}
use Rattle.pair_laws.proofs.runs_are_enhanced.Goals as goal

pub returns : goal.returns
returns c = runs-are_enhanced
