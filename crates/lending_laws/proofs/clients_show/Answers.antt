use Rattle.lending_laws.proofs.Showing.{clients_show}
use Rattle.lending_laws.proofs.clients_show.Goals as goal

pub returns : goal.returns
returns g c = clients_show
