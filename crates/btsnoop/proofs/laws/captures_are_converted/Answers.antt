use Rattle.btsnoop.proofs.WholeCaptures.{captures_converted}
use Rattle.btsnoop.proofs.laws.captures_are_converted.Goals as goal

pub returns : goal.returns
returns c = captures_converted
