use Rattle.btsnoop.proofs.OneConversion.{one_conversion}
use Rattle.btsnoop.proofs.laws.one_conversion.Goals as goal

pub returns : goal.returns
returns c = one_conversion
