use Rattle.done_laws.proofs.Stores.{own_servers_store_done}
use Rattle.done_laws.proofs.own_servers_store_done.Goals as goal

pub returns : goal.returns
returns c = own_servers_store_done
