use Rattle.push_laws.proofs.Losses.{named-once_gain_less, named-once_tell_each}
use Rattle.push_laws.proofs.laws.named_once_gain_less.Goals as goal

pub returns-clause-tells : goal.returns-clause-tells
returns-clause-tells c = named-once_tell_each

pub returns-clause-less : goal.returns-clause-less
returns-clause-less c = named-once_gain_less
