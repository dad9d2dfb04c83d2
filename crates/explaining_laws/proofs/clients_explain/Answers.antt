use Rattle.explaining_laws.proofs.Explaining.{clients_explain}
use Rattle.explaining_laws.proofs.clients_explain.Goals as goal

pub returns : goal.returns
returns g c = clients_explain
