use Rattle.lending_laws.proofs.Showing.{servers_show}
use Rattle.lending_laws.proofs.servers_show.Goals as goal

pub returns : goal.returns
returns g c = servers_show
