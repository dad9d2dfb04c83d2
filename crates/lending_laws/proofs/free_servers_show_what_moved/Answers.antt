use Rattle.lending_laws.proofs.Freed.{free_servers_show_what_moved}
use Rattle.lending_laws.proofs.free_servers_show_what_moved.Goals as goal

pub returns : goal.returns
returns g c = free_servers_show_what_moved
