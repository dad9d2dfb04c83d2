use Rattle.unit_laws.proofs.Gaining.{clients_come}
use Rattle.unit_laws.proofs.clients_come.Goals as goal

pub returns : goal.returns
returns c = clients_come
