use Rattle.unspelled_laws.proofs.Along.{own_servers_withhold_all}
use Rattle.unspelled_laws.proofs.own_servers_withhold_all.Goals as goal

pub returns : goal.returns
returns c = own_servers_withhold_all
