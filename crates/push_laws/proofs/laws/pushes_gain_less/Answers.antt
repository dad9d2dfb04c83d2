use Rattle.push_laws.proofs.Losing.{pushes-gain_less}
use Rattle.push_laws.proofs.laws.pushes_gain_less.Goals as goal

pub returns : goal.returns
returns c = pushes-gain_less
