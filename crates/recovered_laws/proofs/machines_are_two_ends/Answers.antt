use Rattle.recovered_laws.proofs.Following.{machines-are_two_ends}
use Rattle.recovered_laws.proofs.machines_are_two_ends.Goals as goal

pub returns : goal.returns
returns c = machines-are_two_ends
