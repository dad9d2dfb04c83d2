use Rattle.receiving.proofs.Exactness.{turns_are_exact}
use Rattle.receiving.proofs.laws.turns_are_exact.Goals as goal

pub returns : goal.returns
returns g c = λ A. turns_are_exact A
