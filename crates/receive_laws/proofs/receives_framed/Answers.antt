use Rattle.receive_laws.proofs.Spelled.{receives_framed}
use Rattle.receive_laws.proofs.receives_framed.Goals as goal

pub returns : goal.returns
returns c = receives_framed
