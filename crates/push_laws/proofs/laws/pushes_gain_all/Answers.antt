use Rattle.push_laws.proofs.Losing.{pushes-gain_all}
use Rattle.push_laws.proofs.laws.pushes_gain_all.Goals as goal

pub returns : goal.returns
returns c = pushes-gain_all
