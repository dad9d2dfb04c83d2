use Rattle.unmarked_laws.proofs.Ends.{own_servers_end_so}
use Rattle.unmarked_laws.proofs.own_servers_end_so.Goals as goal

pub returns : goal.returns
returns c = own_servers_end_so
