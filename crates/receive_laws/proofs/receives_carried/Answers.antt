use Rattle.receive_laws.proofs.Spelled.{receives_carried}
use Rattle.receive_laws.proofs.receives_carried.Goals as goal

pub returns : goal.returns
returns c = receives_carried
