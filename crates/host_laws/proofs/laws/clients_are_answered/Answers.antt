use Rattle.host_laws.proofs.Answered.{clients_are_answered}
use Rattle.host_laws.proofs.laws.clients_are_answered.Goals as goal

pub returns : goal.returns
returns c = clients_are_answered
