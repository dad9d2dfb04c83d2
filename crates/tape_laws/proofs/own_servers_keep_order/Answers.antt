use Rattle.tape_laws.proofs.OwnPairs.{own_servers_keep_order}
use Rattle.tape_laws.proofs.own_servers_keep_order.Goals as goal

pub returns : goal.returns
returns c = own_servers_keep_order
