use Rattle.host_laws.proofs.SearchingWeave.{clients_await_services}
use Rattle.host_laws.proofs.laws.clients_await_services.Goals as goal

pub returns : goal.returns
returns c = clients_await_services
