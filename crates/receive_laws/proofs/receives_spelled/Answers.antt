use Rattle.receive_laws.proofs.Spelled.{receives_spelled}
use Rattle.receive_laws.proofs.receives_spelled.Goals as goal

pub returns : goal.returns
returns c = receives_spelled
