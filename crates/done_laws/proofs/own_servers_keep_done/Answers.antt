use Rattle.done_laws.proofs.Runs.{own_servers_keep_done}
use Rattle.done_laws.proofs.own_servers_keep_done.Goals as goal

pub returns : goal.returns
returns c = own_servers_keep_done
