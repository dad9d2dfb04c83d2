use Rattle.recovered_laws.proofs.Settling.{machines-are_paid}
use Rattle.recovered_laws.proofs.machines_are_paid.Goals as goal

pub returns : goal.returns
returns c = machines-are_paid
