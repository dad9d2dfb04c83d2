use Rattle.push_laws.proofs.Pushed.{pushed-gain_less}
use Rattle.push_laws.proofs.laws.pushed_gain_less.Goals as goal

pub returns : goal.returns
returns c = pushed-gain_less
