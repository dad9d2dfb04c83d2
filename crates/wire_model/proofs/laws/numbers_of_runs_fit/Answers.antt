use Rattle.std.proofs.Common.{arith}
use Rattle.wire_model.specs.Pair.{new_pair}
use Rattle.wire_model.proofs.Fitting.{numbers_fit}
use Rattle.wire_model.proofs.laws.numbers_of_runs_fit.Goals as goal

pub returns : goal.returns
returns c number events last r = numbers_fit (new_pair number) last events (omega arith, omega arith) r
