use Rattle.credit_laws.proofs.Clients.{clients-are_covered}
use Rattle.credit_laws.proofs.clients_are_covered.Goals as goal

pub returns : goal.returns
returns c = clients-are_covered
