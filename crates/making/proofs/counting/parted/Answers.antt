use Rattle.std.proofs.Common.{ℕ}
use Rattle.std.specs.Prelude.{◌==◌}
use Rattle.making.proofs.Parting.{all_before, none_behind}
use Rattle.making.proofs.counting.parted.Goals as goal

pub returns-in-None-clause-before : goal.returns-in-None-clause-before
returns-in-None-clause-before c = all_before (λ (octet : ℕ). octet == c.args.mark) c.args.text.now c.in-None.ensures

pub returns-in-None-clause-behind : goal.returns-in-None-clause-behind
returns-in-None-clause-behind c = none_behind (λ (octet : ℕ). octet == c.args.mark) c.args.text.now c.in-None.ensures
