use Rattle.lending_laws.proofs.Showing.{servers_show_what_moved}
use Rattle.lending_laws.proofs.servers_show_what_moved.Goals as goal

pub returns : goal.returns
returns g c = servers_show_what_moved
